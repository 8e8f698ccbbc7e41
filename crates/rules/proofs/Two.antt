-- Plays of one step and of two, said by their steps, and what the test for a step tells of its board.
-- Assumes nothing.
use mathlib.Core.Path.{◌≡◌, ap}
use mathlib.Core.Bool.{true}
use mathlib.Core.List.{List}
use Prim.Native.Nat.{ℕ, ◌≤◌, ◌<◌}
use native.Mathlib.Omega.{arith}
use native.Mathlib.Decide.{ℕ_discrete, dec_lt}
use lib.IntN.{ℤ}
use Rattle.position.specs.Board.{xs}
use Rattle.position.specs.Step.{Good, can_step, stepped}
use Rattle.position.proofs.Steps.{test-legal, from-within, step-good}

-- one step by d from b to e
abbrev pub One : ℕ → List ℤ → List ℤ → Type 0
One d b e = (p : ℕ) × (can_step b p d ≡ true) × (e ≡ stepped b p d)

-- a step by d, and from there one by c
abbrev pub Two : ℕ → ℕ → List ℤ → List ℤ → Type 0
Two d c b e = (p : ℕ) × (can_step b p d ≡ true) × One c (stepped b p d) e

module _ (b : List ℤ) (p d : ℕ) (g : Good b) (c : can_step b p d ≡ true) where
  pub can-within : (0 < p) × (p ≤ 25)
  can-within = from-within b p g (test-legal b p d c).has

  pub can-good : Good (stepped b p d)
  can-good = step-good b p d g (test-legal b p d c)

  -- the origin is the bar while x's bar is not empty, and then a point
  pub from-bar : 0 < xs b 25 → p ≡ 25
  from-bar h = elim (dec_lt p 25) [ yes k ↦ omega (arith, (test-legal b p d c).bar k) | no k ↦ omega (arith, can-within) ]

  pub from-point : xs b 25 ≡ 0 → p ≤ 24
  from-point z = elim (ℕ_discrete p 25) [
    | yes q ↦ omega (arith, ap (xs b) q, (test-legal b p d c).has)
    | no n ↦ omega (arith, can-within)
  ]
