-- The board and its side switch (document 01, "The board", "Refusal numbers"). Every rule is said over x's and o's checkers at an entry.
use Rattle.std.specs.Prelude.{◌≡◌, cond, ◌||◌, List, [], ◌∷◌, ℕ, ◌+◌, ◌-◌, ◌≤◌, ltb, eqb, ℤ, pos, negsuc, neg_ℤ, length, get_or}
use Rattle.ints.specs.Signed.{pos_part, neg_part}
use Rattle.ints.specs.Sums.{sum_to, values}

-- "The board": each side plays with fifteen checkers
abbrev pub checkers : ℕ
checkers = 15

-- "The board": what stands at entry p, seen from x, the side to move; nothing stands beyond the 26 entries
abbrev pub entry : List ℤ → ℕ → ℤ
entry b p = get_or b p (pos 0)

-- "The board": a positive entry is that many checkers of x
abbrev pub xs : List ℤ → ℕ → ℕ
xs b p = pos_part (entry b p)

-- "The board": a negative entry is that many checkers of o
abbrev pub os : List ℤ → ℕ → ℕ
os b p = neg_part (entry b p)

-- "Refusal numbers" 1 and 2: all of x's checkers on the board, and all of o's, both bars too, as whole numbers
abbrev pub x_all : List ℤ → ℕ
x_all b = sum_to (xs b) 26

abbrev pub o_all : List ℤ → ℕ
o_all b = sum_to (os b) 26

-- "Refusal numbers" 1 to 4, first that holds: x has more than n checkers, o has, entry 25 is negative, entry 0 is positive; 0 for none
unfoldable pub refusal_of : ℕ → List ℤ → ℕ
refusal_of n b =
    cond (ltb n (x_all b)) 1
    (cond (ltb n (o_all b)) 2
    (cond (ltb 0 (os b 25)) 3
    (cond (ltb 0 (xs b 0)) 4 0)))

-- "Refusal numbers" 6 and 5, after 1 to 4, where a play is asked or a card starts: neither side has a checker on the board; one side has all off; 0 for none
unfoldable pub start_refusal : ℕ → List ℤ → ℕ
start_refusal n b =
    cond (ltb 0 (refusal_of n b)) (refusal_of n b)
    (cond (eqb (x_all b + o_all b) 0) 6
    (cond (eqb (x_all b) 0 || eqb (o_all b) 0) 5 0))

-- "The board": 26 entries, at most n checkers a side, and on each bar only its own side's
pub record Accepted (n : ℕ) (b : List ℤ) : Type 0 where
  pub size : length b ≡ 26
  pub x-most : x_all b ≤ n
  pub o-most : o_all b ≤ n
  pub x-bar : os b 25 ≡ 0
  pub o-bar : xs b 0 ≡ 0

-- "The board": the start board, x 24:2, 13:5, 8:3, 6:5 and o 1:2, 12:5, 17:3, 19:5
abbrev pub start : List ℤ
start =
    pos 0 ∷ negsuc 1 ∷ pos 0 ∷ pos 0 ∷ pos 0 ∷ pos 0 ∷ pos 5 ∷ pos 0 ∷ pos 3 ∷ pos 0 ∷ pos 0 ∷ pos 0 ∷ negsuc 4 ∷ pos 5 ∷ pos 0 ∷ pos 0
    ∷ pos 0 ∷ negsuc 2 ∷ pos 0 ∷ negsuc 4 ∷ pos 0 ∷ pos 0 ∷ pos 0 ∷ pos 0 ∷ pos 2 ∷ pos 0 ∷ []

-- "Side switch": entry 25 - i of the new board is minus entry i of the old
unfoldable pub switched : List ℤ → List ℤ
switched b = values (λ i. neg_ℤ (entry b (25 - i))) 0 26
