-- The points of a mask in an order, one after the other.
use Rattle.std.specs.Prelude.{◌≡◌, true, List, ◌∷◌, ℕ, ◌<◌}
use Rattle.ints.specs.Bits.{bit}

-- p is the first point of the mask m, whose points the order gives as a list, and m' is the mask of the others
pub record Next (points : ℕ → List ℕ) (m p m' : ℕ) : Type 0 where
  pub below : p < 25
  pub held : bit m p ≡ true
  pub parts : points m ≡ p ∷ points m'
  pub fewer : (i : ℕ) → bit m' i ≡ true → bit m i ≡ true
