-- What the reader's inner functions answer. Nothing here is a rule: it cuts the definition of reading into the steps of its loop.
use Rattle.std.specs.Prelude.{◌≡◌, cond, List, [], ℕ, ◌/◌, ◌%◌, ltb, ℤ, get_or, Some, None, Result, Ok, Err}
use Rattle.ints.specs.Answer.{value, refused}
use Rattle.ints.specs.Refusals.{number}
use Rattle.ints.specs.declared.refusal.Refusal.{Refusal}
use Rattle.ints.specs.declared.refusal.Refused.{Refused}
use Rattle.dice.specs.Rolls.{rolls}
use Rattle.dice.specs.Dice.{is_byte_in}
use Rattle.position.specs.Board.{Accepted}
use Rattle.rules.specs.Ends.{switched_ends_of}
use Rattle.moves.specs.Answers.{ends_count}
use Rattle.key.specs.Key.{board_of}
use Rattle.card.specs.declared.reader.Reading.{Reading}
use Rattle.card.specs.Read.{start_key, start_record_refusal, finished, turn_refusal, after_turn, board_after, read_answer}

-- the board b, which is accepted, where the refusal k is 0; else the refusal
abbrev pub Reached : ℕ → ℕ → List ℤ → Result (List ℤ) Refusal → Type 0
Reached n k b (Ok c) = (k ≡ 0) × (c ≡ b) × Accepted n b
Reached n k b (Err why) = number why ≡ k

-- the start record, read
abbrev pub StartRead : ℕ → List ℕ → Result (List ℤ) Refusal → Type 0
StartRead n card = Reached n (start_record_refusal n card) (board_of (start_key card))

-- the refusals of a turn whose record is whole and marked: 25, 26, 11; 0 for none
abbrev pub played_refusal : List ℤ → ℕ → ℕ → ℕ
played_refusal b byte k =
    cond (finished b) 25 (cond (is_byte_in rolls byte) (cond (ltb k (ends_count b (byte / 16) (byte % 16))) 0 11) 26)

-- a turn played from b, by its dice byte and the number of its end
abbrev pub Played : ℕ → List ℤ → ℕ → ℕ → Result (List ℤ) Refusal → Type 0
Played n b byte k = Reached n (played_refusal b byte k) (get_or (switched_ends_of b (byte / 16) (byte % 16)) k [])

-- a turn played from b, by its record
abbrev pub TurnRead : ℕ → List ℤ → List ℕ → Result (List ℤ) Refusal → Type 0
TurnRead n b bytes = Reached n (turn_refusal b bytes) (after_turn b bytes)

-- a card that is read, with the board after `stop` turns noted
pub record Whole (n m : ℕ) (card : List ℕ) (stop : ℕ) (r : Reading) : Type 0 where
  pub told : value r.turns ≡ read_answer n m card
  pub last : r.last ≡ board_after card r.turns
  pub ok : Accepted n r.last
  pub asked : r.asked ≡ cond (ltb r.turns stop) None (Some (board_after card stop))

-- a card replayed: it is read, or the refusal and its place
abbrev pub Replayed : ℕ → ℕ → List ℕ → ℕ → Result Reading Refused → Type 0
Replayed n m card stop (Ok r) = Whole n m card stop r
Replayed n m card stop (Err f) = refused (number f.why) f.carried ≡ read_answer n m card
