-- Result and phase as one number (document 01, "Result and phase").
use Rattle.std.specs.Prelude.{cond, List, ℕ, zero, suc, ◌+◌, ltb, eqb, ℤ}
use Rattle.ints.specs.Answer.{Answer, value, refused}
use Rattle.ints.specs.Sums.{sum_to}
use Rattle.position.specs.Board.{xs, os, x_all, o_all, refusal_of}

-- the highest number below n at which f is not 0, else 0
unfoldable pub highest : (ℕ → ℕ) → ℕ → ℕ
highest f zero = 0
highest f (suc n) = cond (ltb 0 (f n)) n (highest f n)

-- the lowest of the n numbers from i on at which f is not 0, else the number after them
unfoldable pub lowest : (ℕ → ℕ) → ℕ → ℕ → ℕ
lowest f i zero = i
lowest f i (suc n) = cond (ltb 0 (f i)) i (lowest f (i + 1) n)

-- "Result and phase", x all off: 2 if o has any off (fewer than n on the board), else 4 if o stands on 0 to 6, else 3; o all off: 5, 7, 6 alike, with x on 19 to 25;
-- unfinished: 0 if the highest entry that holds x exceeds the lowest that holds o, both bars counted, else 1
unfoldable pub phase_of : ℕ → List ℤ → ℕ
phase_of n b =
    cond (eqb (x_all b) 0) (cond (ltb (o_all b) n) 2 (cond (ltb 0 (sum_to (os b) 7)) 4 3))
    (cond (eqb (o_all b) 0) (cond (ltb (x_all b) n) 5 (cond (ltb (sum_to (xs b) 19) (x_all b)) 7 6))
    (cond (ltb (lowest (os b) 0 26) (highest (xs b) 26)) 0 1))

-- "Refusal numbers": the board's refusal, then 6 where neither side has a checker on the board, else the number of result and phase
unfoldable pub phase_answer : ℕ → List ℤ → Answer
phase_answer n b =
    cond (ltb 0 (refusal_of n b)) (refused (refusal_of n b) 0)
    (cond (eqb (x_all b + o_all b) 0) (refused 6 0) (value (phase_of n b)))
