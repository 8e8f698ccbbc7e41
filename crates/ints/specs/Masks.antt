-- Sets of points as numbers: point i is digit i.
use Rattle.std.specs.Prelude.{◌≡◌, Bool, true, false, List, [], ◌∷◌, ℕ, zero, suc}
use Rattle.ints.specs.Bits.{bit}

-- Digit i of m is f i, for every i.
abbrev pub IsMask : (ℕ → Bool) → ℕ → Type 0
IsMask f m = (i : ℕ) → bit m i ≡ f i

-- The list l, with k in front where the test says so.
abbrev pub keep : Bool → ℕ → List ℕ → List ℕ
keep true k l = k ∷ l
keep false k l = l

-- The numbers among the n from k on of which f holds, low to high; `those n 0 (bit m)` are the points of a mask m below 2 ^ n.
unfoldable pub those : ℕ → ℕ → (ℕ → Bool) → List ℕ
those zero k f = []
those (suc n) k f = keep (f k) k (those n (suc k) f)

-- The numbers below n of which f holds, high to low.
unfoldable pub those_down : ℕ → (ℕ → Bool) → List ℕ
those_down zero f = []
those_down (suc n) f = keep (f n) n (those_down n f)
