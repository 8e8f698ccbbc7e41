-- The highest entry that lost an x tells the first origin of a play whose origins never rise.
-- Assumes nothing.
use mathlib.Core.Path.{◌≡◌, refl, ◌∙◌}
use mathlib.Core.List.{List}
use Prim.Native.Nat.{ℕ, ◌≤◌, ◌<◌}
use native.Mathlib.Omega.{arith}
use native.Mathlib.Decide.{ℕ_discrete}
use lib.IntN.{ℤ}
use Rattle.ints.proofs.Sums.{one_same, one-other}
use Rattle.position.specs.Board.{xs}
use Rattle.position.specs.Step.{Good, Legal, stepped}
use Rattle.position.proofs.Steps.{AfterStep, step-law, reached-above}
use Rattle.dice.specs.Dice.{Die}

-- from b to e x got none on top, and above it nothing changed
pub record Below (b e : List ℤ) (top : ℕ) : Type 0 where
  pub «at» : xs e top ≤ xs b top
  pub above : (i : ℕ) → top < i → xs e i ≡ xs b i

-- from b to e x lost one from p, and above it nothing changed
pub record Mark (b e : List ℤ) (p : ℕ) : Type 0 where
  pub less : xs e p < xs b p
  pub above : (i : ℕ) → p < i → xs e i ≡ xs b i

-- a board bears one mark only
pub marks : (b e : List ℤ) (p q : ℕ) → p < q → Mark b e p → Mark b e q → ⊥
marks b e p q h m n = omega (arith, m.above q h, n.less)

pub mark-below : {b e : List ℤ} {p : ℕ} → Mark b e p → Below b e p
mark-below m = record { «at» = omega (arith, m.less); above = m.above }

pub below-same : (b e : List ℤ) (top : ℕ) → e ≡ b → Below b e top
below-same b e top q = rw q (record { «at» = omega arith; above = λ i h. refl })

pub below_up : {b e : List ℤ} {p : ℕ} (top : ℕ) → p ≤ top → Below b e p → Below b e top
below_up {p = p} top h l = record {
  «at» = elim (ℕ_discrete p top) [ yes q ↦ rw (← q) l.at | no n ↦ omega (arith, l.above top (omega arith)) ];
  above = λ i k. l.above i (omega arith);
}

-- a step from p; and after it steps from at most p
module _ (b : List ℤ) (p d : ℕ) (g : Good b) (dd : Die d) (l : Legal b p d) where
  done : AfterStep b (stepped b p d) p d
  done = step-law b p d g l

  pub mark-step : Mark b (stepped b p d) p
  mark-step = record {
    less = omega (arith, done.x p, one_same p p refl, reached-above p d p dd.low (omega arith));
    above = λ i h. omega (arith, done.x i, one-other p i (λ q. omega arith), reached-above p d i dd.low (omega arith));
  }

  pub mark-steps : (e : List ℤ) → Below (stepped b p d) e p → Mark b e p
  mark-steps e h = record { less = omega (arith, mark-step.less, h.at); above = λ i k. h.above i k ∙ mark-step.above i k }
