-- What recovery answers (document 01, "Recovery", "Refusal numbers").
use Rattle.std.specs.Prelude.{cond, Result, Ok, Err, List, [], ◌∷◌, ◌++◌, ℕ, ltb, eqb, ℤ, length, get_or, drop}
use Rattle.ints.specs.Answer.{Answer, value, refused}
use Rattle.ints.specs.Refusals.{number}
use Rattle.ints.specs.declared.refusal.Refusal.{Refusal}
use Rattle.rules.specs.Ends.{ends_of, among}
use Rattle.moves.specs.Answers.{play_refusal}
use Rattle.bg_move.specs.declared.Step.{Step}
use Rattle.bg_move.specs.declared.Steps.{Steps}
use Rattle.bg_move.specs.Steps.{steps_of}

-- "Refusal numbers" 12: the refusals of a play, then 12 where the second board is no end of the roll; 0 for none
unfoldable pub recover_refusal : ℕ → List ℤ → ℕ → ℕ → List ℤ → ℕ
recover_refusal n b d1 d2 e =
    cond (ltb 0 (play_refusal n b d1 d2)) (play_refusal n b d1 d2) (cond (among e (ends_of b d1 d2)) 0 12)

-- "Recovery": the steps, none where recovery is refused
unfoldable pub recovered : ℕ → List ℤ → ℕ → ℕ → List ℤ → List Step
recovered n b d1 d2 e = cond (eqb (recover_refusal n b d1 d2 e) 0) (steps_of b d1 d2 e) []

-- what stands in a place without a step
abbrev pub none : Step
none = record { from = 0; to = 0 }

-- the four places: the steps of a list, then zeros
abbrev pub places : List Step → List Step
places ts = get_or ts 0 none ∷ get_or ts 1 none ∷ get_or ts 2 none ∷ get_or ts 3 none ∷ []

-- up to four steps as one value, zeros after them
unfoldable pub steps_value : List Step → Steps
steps_value ts = record { count = length ts; steps = places ts }

-- a refusal's number, 0 for none, and the steps
pub record Recovered : Type 0 where
  pub refused : ℕ
  pub steps : Steps

-- what each case of an answer says
abbrev pub recovered_told : Result Steps Refusal → Recovered
recovered_told (Ok s) = record { refused = 0; steps = s }
recovered_told (Err r) = record { refused = number r; steps = steps_value [] }

-- "Recovery": the refusal's number and no steps, or 0 and the steps
unfoldable pub recovered_answer : ℕ → List ℤ → ℕ → ℕ → List ℤ → Recovered
recovered_answer n b d1 d2 e = record { refused = recover_refusal n b d1 d2 e; steps = steps_value (recovered n b d1 d2 e) }

-- step i of those answered, zeros past the fourth place
abbrev pub step_at : Steps → ℕ → Step
step_at s i = get_or s.steps i none

-- "Refusal numbers" 27: the refusal, 27 where the row has fewer places than steps, or the number of steps
unfoldable pub row_answer : ℕ → List ℤ → ℕ → ℕ → List ℤ → ℕ → Answer
row_answer n b d1 d2 e places =
    cond (ltb 0 (recover_refusal n b d1 d2 e)) (refused (recover_refusal n b d1 d2 e) 0)
    (cond (ltb places (length (recovered n b d1 d2 e))) (refused 27 0) (value (length (recovered n b d1 d2 e))))

-- "Recovery": the lent row afterwards: the steps, and the places after them as they were; all of it as it was where it has too few places
unfoldable pub row_after : ℕ → List ℤ → ℕ → ℕ → List ℤ → List Step → List Step
row_after n b d1 d2 e row =
    cond (ltb (length row) (length (recovered n b d1 d2 e))) row
    (recovered n b d1 d2 e ++ drop (length (recovered n b d1 d2 e)) row)
