-- The two dice of a roll: the smaller and the larger, the dice that a roll gives, and that a roll does not tell its first die from its second.
-- Assumes nothing.
use mathlib.Core.Path.{◌≡◌, sym, ap}
use mathlib.Core.Bool.{Bool, true, cond}
use mathlib.Core.Logic.{◌≢◌}
use mathlib.Core.List.{List, [], ◌∷◌}
use Prim.Native.Nat.{ℕ, min, max}
use native.Mathlib.Omega.{arith}
use native.Mathlib.Nat.{min_comm, max_comm}
use native.Mathlib.Decide.{ℕ_discrete}
use borrow.Author.Tests.{eq-eqb, ne_eqb}
use lib.IntN.{ℤ}
use lib.ListN.{replicate}
use Rattle.dice.specs.Dice.{Die}
use Rattle.position.specs.Step.{can_step}
use Rattle.rules.specs.Plays.{dice_rolled, LegalEnd}
use Rattle.rules.specs.Ends.{most, mixed, ends_of}

module _ (d1 d2 : ℕ) where
  pub smaller-die : Die d1 → Die d2 → Die (min d1 d2)
  smaller-die a b = record { low = omega arith; high = omega arith }

  pub larger-die : Die d1 → Die d2 → Die (max d1 d2)
  larger-die a b = record { low = omega arith; high = omega arith }

  -- what a double and a mixed roll give: the dice, and the list
  pub double-dice : d1 ≡ d2 → dice_rolled d1 d2 ≡ replicate 4 d1
  unfolding dice_rolled
  double-dice e = rw (eq-eqb d1 d2 e)

  pub mixed-dice : d1 ≢ d2 → dice_rolled d1 d2 ≡ max d1 d2 ∷ min d1 d2 ∷ []
  unfolding dice_rolled
  mixed-dice n = rw (ne_eqb d1 d2 n)

  module _ (b : List ℤ) where
    abbrev by_roll : Bool → List (List ℤ)
    by_roll t = cond t (most d1 b 4) (mixed b (min d1 d2) (max d1 d2))

    pub double-list : d1 ≡ d2 → ends_of b d1 d2 ≡ most d1 b 4
    unfolding ends_of
    double-list e = ap by_roll (eq-eqb d1 d2 e)

    pub mixed-list : d1 ≢ d2 → ends_of b d1 d2 ≡ mixed b (min d1 d2) (max d1 d2)
    unfolding ends_of
    mixed-list n = ap by_roll (ne_eqb d1 d2 n)

module _ (d1 d2 : ℕ) where
  pub rolled-order : dice_rolled d1 d2 ≡ dice_rolled d2 d1
  rolled-order = elim (ℕ_discrete d1 d2) [
    | yes e ↦ rw e
    | no n ↦ rw (mixed-dice d1 d2 n, mixed-dice d2 d1 (λ e. n (sym e)), max_comm d1 d2, min_comm d1 d2)
  ]

  pub dice-order : (b : List ℤ) → ends_of b d1 d2 ≡ ends_of b d2 d1
  dice-order b = elim (ℕ_discrete d1 d2) [
    | yes e ↦ rw e
    | no n ↦ rw (mixed-list d1 d2 b n, mixed-list d2 d1 b (λ e. n (sym e)), max_comm d1 d2, min_comm d1 d2)
  ]

  pub legal-order : (b e : List ℤ) → LegalEnd b d1 d2 e → LegalEnd b d2 d1 e
  legal-order b e l = record {
    used = l.used;
    play = rw (← rolled-order) l.play;
    most = λ n f p. l.most n f (rw rolled-order p);
    larger = λ u p c.
        let h : can_step b p (max d1 d2) ≡ true = rw (max_comm d1 d2) c in
        rw (← max_comm d1 d2) (l.larger u p h);
  }
