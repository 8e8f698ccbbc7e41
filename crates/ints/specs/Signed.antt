-- Signed numbers by their parts. Rules over a board are said in whole numbers from 0 up: x's checkers are an entry's positive part, o's its negative part.
use Rattle.std.specs.Prelude.{ℕ, suc, ◌≤◌, List, ℤ, pos, negsuc, get_or}
use Rattle.std.specs.Int.Signed.{mag}

-- how far a number stands above 0, else 0
abbrev pub pos_part : ℤ → ℕ
pos_part (pos n) = n
pos_part (negsuc n) = 0

-- how far a number stands below 0, else 0
abbrev pub neg_part : ℤ → ℕ
neg_part (pos n) = 0
neg_part (negsuc n) = suc n

-- each number of the list is between -k - 1 and k
abbrev pub Small : ℕ → List ℤ → Type 0
Small k l = (i : ℕ) → mag (get_or l i (pos 0)) ≤ k
