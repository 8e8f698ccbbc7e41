-- A double: the highest point that has still to lose a checker is the next origin of a play whose origins never rise, so recovery makes that play.
-- Assumes nothing.
use mathlib.Core.Path.{◌≡◌, refl, ap}
use mathlib.Core.Logic.{inl}
use mathlib.Core.List.{List, [], ◌∷◌}
use Prim.Native.Nat.{ℕ, zero, suc, ◌≤◌, ◌<◌}
use native.Mathlib.Omega.{arith}
use borrow.Author.Tests.{eq-eqb, ne_eqb}
use lib.IntN.{ℤ}
use lib.ListN.{length, replicate}
use Rattle.dice.specs.Dice.{Die}
use Rattle.position.specs.Step.{Good, stepped}
use Rattle.position.proofs.Steps.{test-legal}
use Rattle.rules.proofs.Two.{can-within, can-good}
use Rattle.rules.proofs.Marks.{mark-steps}
use Rattle.rules.proofs.Doubles.{Sorted, sorted-below}
use Rattle.bg_move.specs.Steps.{told, Made, lost, double_steps}
use Rattle.bg_move.proofs.Losses.{lost-mark, lost-same}

module _ (d k : ℕ) (b e : List ℤ) where
  stops : lost b e 26 ≡ 0 → double_steps d (suc k) b e ≡ []
  unfolding double_steps
  stops h = rw (eq-eqb (lost b e 26) 0 h)

  goes_on : (p : ℕ) → lost b e 26 ≡ p → 0 < p → double_steps d (suc k) b e ≡ told p d ∷ double_steps d k (stepped b p d) e
  unfolding double_steps
  goes_on p h l = rw (h, ne_eqb p 0 (λ z. omega arith))

none : (d k : ℕ) (b e : List ℤ) → e ≡ b → double_steps d k b e ≡ []
unfolding double_steps
none d zero b e q = refl
none d (suc k) b e q = stops d k b e (lost-same b e q)

-- n sorted steps, of at most k that are looked for, with m dice
module _ (d : ℕ) (dd : Die d) where
  pub double-made : (n k m top : ℕ) (b e : List ℤ) → Good b → n ≤ k → n ≤ m → Sorted d n top b e
      → Made (double_steps d k b e) (replicate m d) b e × (length (double_steps d k b e) ≡ n)
  double-made zero k m top b e g h i q = rw (none d k b e q) (q, refl)
  double-made (suc n) zero m top b e g h i s = let r : ⊥ = omega arith in absurd r
  double-made (suc n) (suc k) zero top b e g h i s = let r : ⊥ = omega arith in absurd r
  double-made (suc n) (suc k) (suc m) top b e g h i s =
      let p = s.0 in
      let good : Good (stepped b p d) = can-good b p d g s.3 in
      let found : lost b e 26 ≡ p =
      lost-mark b e p (can-within b p d g s.3).1
      (mark-steps b p d g dd (test-legal b p d s.3) e (sorted-below d dd n p (stepped b p d) e good s.4)) in
      let r = double-made n k m p (stepped b p d) e good (omega arith) (omega arith) s.4 in
      rw (goes_on d k b e p found s.1) (inl (refl, s.3, r.0), ap suc r.1)
