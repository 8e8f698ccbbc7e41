-- What the reader's function for one side answers. Nothing here is a rule: it cuts the definition of reading at its middle.
use Rattle.std.specs.Prelude.{◌≡◌, Bool, Option, Some, None, List, ◌∷◌, ℕ, ◌+◌, ◌≤◌, ◌<◌, drop}
use Rattle.ints.specs.Sums.{total}
use Rattle.position.specs.Board.{checkers}
use Rattle.key.specs.declared.Side.{Side}
use Rattle.key.specs.Key.{counts_of, rest_of}

-- the 25 runs from bit `from` on give at most fifteen checkers; what they give, and where the bits after them begin
pub record Counted (bits : List Bool) (from end : ℕ) (counts : List ℕ) : Type 0 where
  pub most : total (counts_of 25 (drop from bits)) ≤ checkers
  pub are : counts ≡ 0 ∷ counts_of 25 (drop from bits)
  pub near : end ≤ from + 40
  pub after : drop end bits ≡ rest_of 25 (drop from bits)

-- none where the runs give too many checkers; else they are counted
abbrev pub IsSide : List Bool → ℕ → Option Side → Type 0
IsSide bits from None = checkers < total (counts_of 25 (drop from bits))
IsSide bits from (Some s) = Counted bits from s.end s.counts
