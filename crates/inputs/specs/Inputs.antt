-- The inputs of a board by their places (document 01, "Inputs"). Every one is a whole number, and is told here as one.
use Rattle.std.specs.Prelude.{cond, List, [], ◌∷◌, ◌++◌, map, ℕ, ◌-◌, leb, eqb, Float, ℤ, pos}
use Rattle.std.specs.Float.{binary32}
use Rattle.std.specs.Float.Ieee.{of_int, to_bits}
use Rattle.ints.specs.Sums.{values}
use Rattle.position.specs.Board.{xs, os, x_all, o_all}

-- "Inputs": the f32 that is the whole number n, exactly
unfoldable pub whole : ℕ → Float
unfolding of_int
whole n = of_int binary32 (pos n)

-- "Refusal numbers": lent memory stays, byte for byte; so a lent f32 is told by its bits, since the values have one NaN where memory has many
unfoldable pub bits : ℕ → ℕ
bits n = to_bits binary32 (whole n)

-- "Inputs": n checkers of a side on a point give 1,0,0,0 for one, 0,1,0,0 for two, 0,0,1 and n less three from three on, all 0 for none
abbrev pub four : ℕ → List ℕ
four n = cond (eqb n 1) 1 0 ∷ cond (eqb n 2) 1 0 ∷ cond (leb 3 n) 1 0 ∷ (n - 3) ∷ []

-- "Inputs": the values of these counts, four a count
unfoldable pub fours : List ℕ → List ℕ
fours [] = []
fours (n ∷ ns) = four n ++ fours ns

-- "Inputs", contact: x's checkers on its bar and on 1 to 24, then o's on 0 to 24, the first of which is o's bar
unfoldable pub contact_counts : List ℤ → List ℕ
contact_counts b = xs b 25 ∷ values (xs b) 1 24 ++ values (os b) 0 25

-- "Inputs", race: x's checkers on 1 to 23, then o's on 2 to 24
unfoldable pub race_counts : List ℤ → List ℕ
race_counts b = values (xs b) 1 23 ++ values (os b) 2 23

-- "Inputs": x's and o's checkers that are off, of n a side, then the values of the counts
unfoldable pub inputs_of : ℕ → List ℤ → List ℕ → List ℕ
inputs_of n b counts = (n - x_all b) ∷ (n - o_all b) ∷ fours counts

-- "Inputs": all inputs of each kind, in order of place
unfoldable pub contact_inputs : ℕ → List ℤ → List ℕ
contact_inputs n b = inputs_of n b (contact_counts b)

unfoldable pub race_inputs : ℕ → List ℤ → List ℕ
race_inputs n b = inputs_of n b (race_counts b)

-- "Inputs": the Rust's table of rows, of which row i holds the values of i - 15 checkers; below 15 the other side stands there, and all are 0
unfoldable pub td_inputs : List (List Float)
td_inputs = values (λ i. map whole (four (i - 15))) 0 31
