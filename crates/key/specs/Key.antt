-- The Position ID key of a board (document 01, "Key"), and what writing and reading it answer. Bits are a list, bit 0 first.
-- Assumes nothing: these are definitions.
use Rattle.std.specs.Prelude.{Bool, Result, Ok, Err, true, false, cond, ◌&&◌, List, [], ◌∷◌, ◌++◌, ℕ, zero, suc, ◌-◌, ltb, eqb, ℤ, pos, ◌-ℤ◌, length, get_or, replicate}
use Rattle.ints.specs.Bits.{bits_of, bytes_of, some}
use Rattle.ints.specs.Sums.{values, total}
use Rattle.ints.specs.Refusals.{number}
use Rattle.ints.specs.declared.refusal.Refusal.{Refusal}
use Rattle.position.specs.Board.{xs, os, refusal_of}
use Rattle.position.specs.Answers.{BoardAnswer, board_answer}

-- ---- writing

-- "Key": each run's checkers: o's on points 24 down to 0, then x's on points 1 to 25.
unfoldable pub counts : List ℤ → List ℕ
counts b = values (λ i. os b (24 - i)) 0 25 ++ values (xs b) 1 25

-- "Key": a run is a 1 for each checker, then a 0.
unfoldable pub runs : List ℕ → List Bool
runs [] = []
runs (n ∷ ns) = replicate n true ++ (false ∷ runs ns)

-- "Key": the runs, and the rest of 80 bits 0.
unfoldable pub key_bits : List ℤ → List Bool
key_bits b = runs (counts b) ++ replicate (80 - length (runs (counts b))) false

-- "Key": the ten bytes that have these bits.
unfoldable pub key_of : List ℤ → List ℕ
key_of b = bytes_of 10 (key_bits b)

-- what is answered of a board: 0 and its key, or the number of a refusal and zeros
pub record KeyAnswer : Type 0 where
  pub refused : ℕ
  pub key : List ℕ

-- what an answer says that is a key or a refusal
abbrev pub key_told : Result (List ℕ) Refusal → KeyAnswer
key_told (Ok k) = record { refused = 0; key = k }
key_told (Err r) = record { refused = number r; key = replicate 10 0 }

-- "Refusal numbers": the board's refusal of 1 to 4 and zeros, or 0 and the key.
unfoldable pub key_answer : ℕ → List ℤ → KeyAnswer
key_answer n b = record { refused = refusal_of n b; key = cond (eqb (refusal_of n b) 0) (key_of b) (replicate 10 0) }

-- ---- reading

-- "Key": the checkers of the run that the bits begin with are its 1s; where the bits end, it ends.
unfoldable pub lead : List Bool → ℕ
lead [] = 0
lead (false ∷ l) = 0
lead (true ∷ l) = suc (lead l)

-- "Key": the next run begins after the 0 that ends this one.
unfoldable pub rest : List Bool → List Bool
rest [] = []
rest (false ∷ l) = l
rest (true ∷ l) = rest l

-- "Key": the checkers that n runs give.
unfoldable pub counts_of : ℕ → List Bool → List ℕ
counts_of zero l = []
counts_of (suc n) l = lead l ∷ counts_of n (rest l)

-- "Key": the bits after n runs.
unfoldable pub rest_of : ℕ → List Bool → List Bool
rest_of zero l = l
rest_of (suc n) l = rest_of n (rest l)

-- "Key": the first 25 runs are o's, on its own points 1 to 25, which are points 24 down to 0; on its point 0 it has none.
unfoldable pub o_side : List Bool → List ℕ
o_side l = 0 ∷ counts_of 25 l

-- "Key": the next 25 runs are x's, on points 1 to 25; on point 0 it has none.
unfoldable pub x_side : List Bool → List ℕ
x_side l = 0 ∷ counts_of 25 (rest_of 25 l)

-- "Refusal numbers" 17: both sides have a checker on point p, which is o's own point 25 - p.
abbrev pub meets : List ℕ → List ℕ → ℕ → Bool
meets x o p = ltb 0 (get_or x p 0) && ltb 0 (get_or o (25 - p) 0)

-- "Refusal numbers" 15 to 18, first that holds: o has more than n checkers, x has, both sides stand on one point, a bit is set after
-- the last end bit; 0 for none.
unfoldable pub bits_refusal : ℕ → List Bool → ℕ
bits_refusal n l =
    cond (ltb n (total (o_side l))) 15
    (cond (ltb n (total (x_side l))) 16
    (cond (some (values (meets (x_side l) (o_side l)) 0 26)) 17
    (cond (some (rest_of 25 (rest_of 25 l))) 18 0)))

-- "Key": a key is refused by its bits, of which bit k is bit k % 8 of byte k / 8.
unfoldable pub key_refusal : ℕ → List ℕ → ℕ
key_refusal n k = bits_refusal n (bits_of k)

-- "The board": the entry of a point is x's checkers there less o's, whose own point 25 - p it is.
unfoldable pub board_from : List ℕ → List ℕ → List ℤ
board_from x o = values (λ p. pos (get_or x p 0) -ℤ pos (get_or o (25 - p) 0)) 0 26

-- "Key": the board whose checkers the runs give.
unfoldable pub board_of : List ℕ → List ℤ
board_of k = board_from (x_side (bits_of k)) (o_side (bits_of k))

-- "Refusal numbers": the key's refusal of 15 to 18 alone, or 0 and the board.
unfoldable pub board_of_key_answer : ℕ → List ℕ → BoardAnswer
board_of_key_answer n k = board_answer (key_refusal n k) (board_of k)
