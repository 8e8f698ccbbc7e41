-- Nothing here is a rule: how code holds counts, as rows of its table, and how many a net has.
use Rattle.std.specs.Prelude.{◌≡◌, refl, List, ℕ, ◌+◌, ◌-◌, ◌*◌, ◌<◌, ℤ, length, get_or}
use Rattle.ints.specs.Sums.{values}
use Rattle.inputs.specs.Inputs.{contact_counts, race_counts}

-- row r holds the values of n checkers
pub record Row (r n : ℕ) : Type 0 where
  pub below : r < 31
  pub is : r - 15 ≡ n

-- a list that begins with the rows of these counts
abbrev pub Rows : List ℕ → List ℕ → Type 0
Rows rows counts = (k : ℕ) → k < length counts → Row (get_or rows k 0) (get_or counts k 0)

-- each net's inputs: two for the checkers that are off, and four a point
pub contact-points : (b : List ℤ) → 2 + 4 * length (contact_counts b) ≡ 202
unfolding contact_counts values
contact-points b = refl

pub race-points : (b : List ℤ) → 2 + 4 * length (race_counts b) ≡ 186
unfolding race_counts values
race-points b = refl
