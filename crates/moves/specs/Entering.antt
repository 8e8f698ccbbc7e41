-- Checkers entered by a double (document 01, "Double"), as far as that went.
use Rattle.std.specs.Prelude.{◌≡◌, List, ℕ, ◌-◌, ◌*◌, ◌≤◌, ℤ}
use Rattle.ints.specs.Signed.{Small}
use Rattle.position.specs.Step.{Good}
use Rattle.rules.specs.Ends.{most}

-- from b with k steps by d to c with `left` steps: the ends are the same, and entries grew by at most two a step
pub record Entering (d : ℕ) (b : List ℤ) (k : ℕ) (c : List ℤ) (left : ℕ) : Type 0 where
  pub good : Good c
  pub small : Small (23 - 2 * left) c
  pub few : left ≤ 4
  pub same : most d b k ≡ most d c left
