-- The number of an end, its place in the list of the roll's ends (document 01, "Steps and ends", "Game card").
use Rattle.std.specs.Prelude.{cond, List, [], ◌∷◌, ℕ, suc, ltb, ℤ, Result}
use Rattle.ints.specs.Answer.{Answer, value, refused}
use Rattle.ints.specs.Refusals.{told}
use Rattle.ints.specs.declared.refusal.Refusal.{Refusal}
use Rattle.rules.specs.Ends.{same_board, switched_ends_of}
use Rattle.moves.specs.Answers.{play_refusal, ends_count}

-- "Steps and ends": the place of a board in a list, counted from 0; the list's length where it does not stand there
unfoldable pub place : List ℤ → List (List ℤ) → ℕ
place e [] = 0
place e (c ∷ cs) = cond (same_board e c) 0 (suc (place e cs))

-- "Refusal numbers" 12: the refusals of a play, then 12 where the board, sides switched, is no end of the roll, or the end's number
unfoldable pub number_answer : ℕ → List ℤ → ℕ → ℕ → List ℤ → Answer
number_answer n b d1 d2 e =
    cond (ltb 0 (play_refusal n b d1 d2)) (refused (play_refusal n b d1 d2) 0)
    (cond (ltb (place e (switched_ends_of b d1 d2)) (ends_count b d1 d2)) (value (place e (switched_ends_of b d1 d2))) (refused 12 0))

-- what each case of the answer says
abbrev pub number_told : Result ℕ Refusal → Answer
number_told = told
