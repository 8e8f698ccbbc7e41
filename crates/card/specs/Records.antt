-- What the functions that make records answer. Nothing here is a rule: it cuts the definition of adding a turn where the code is cut.
use Rattle.std.specs.Prelude.{◌≡◌, cond, ◌&&◌, List, ℕ, ltb, ℤ, Result, Ok, Err}
use Rattle.ints.specs.Refusals.{number}
use Rattle.ints.specs.declared.refusal.Refusal.{Refusal}
use Rattle.dice.specs.Dice.{is_die}
use Rattle.rules.specs.Ends.{switched_ends_of}
use Rattle.moves.specs.Answers.{ends_count}
use Rattle.end_number.specs.Number.{place}
use Rattle.card.specs.Read.{finished}
use Rattle.card.specs.Answers.{added_record}

-- the refusals of a turn from b, where the card has room for one: 25, 7, 12; 0 for none
abbrev pub record_refusal : List ℤ → ℕ → ℕ → List ℤ → ℕ
record_refusal b d1 d2 e =
    cond (finished b) 25
    (cond (is_die d1 && is_die d2) (cond (ltb (place e (switched_ends_of b d1 d2)) (ends_count b d1 d2)) 0 12) 7)

-- a turn's record was made, or refused
abbrev pub RecordMade : List ℤ → ℕ → ℕ → List ℤ → Result (List ℕ) Refusal → Type 0
RecordMade b d1 d2 e (Ok bytes) = (record_refusal b d1 d2 e ≡ 0) × (bytes ≡ added_record b d1 d2 e)
RecordMade b d1 d2 e (Err why) = number why ≡ record_refusal b d1 d2 e
