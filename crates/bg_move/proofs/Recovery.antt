-- Recovery is right for every legal end: its steps are legal one after another, each by a die of its own, as many as the dice used, and lead to
-- that end; and there are never more than four.
-- Assumes nothing.
use mathlib.Core.Path.{◌≡◌}
use mathlib.Core.Logic.{◌≢◌}
use mathlib.Core.List.{List}
use Prim.Native.Nat.{ℕ, zero, suc, ◌-◌, ◌≤◌, min, max}
use native.Mathlib.Omega.{arith}
use native.Mathlib.Decide.{ℕ_discrete}
use borrow.Author.Tests.{eq-eqb, ne_eqb}
use lib.Dec.{eqb}
use lib.IntN.{ℤ}
use lib.ListN.{length, replicate}
use Rattle.ints.proofs.Tests.{by_cond}
use Rattle.dice.specs.Dice.{Die}
use Rattle.position.specs.Step.{Good, stepped}
use Rattle.rules.specs.Plays.{dice_rolled, Play, LegalEnd}
use Rattle.rules.proofs.Plays.{play-most}
use Rattle.rules.proofs.Dice.{smaller-die, larger-die, double-dice, mixed-dice}
use Rattle.rules.proofs.Doubles.{in-doubles, double-sorted}
use Rattle.bg_move.specs.declared.Step.{Step}
use Rattle.bg_move.specs.Steps.{Made, lost, lost_next, leads, leads_both, one_checker, two_checkers, mixed_steps, double_steps, steps_of}
use Rattle.bg_move.proofs.DoubleRecovered.{double-made}
use Rattle.bg_move.proofs.MixedRecovered.{mixed-made}

module _ (b : List ℤ) (d1 d2 : ℕ) (e : List ℤ) where
  pub double-steps : d1 ≡ d2 → steps_of b d1 d2 e ≡ double_steps d1 4 b e
  unfolding steps_of
  double-steps q = rw (eq-eqb d1 d2 q)

  pub mixed-steps : d1 ≢ d2 → steps_of b d1 d2 e ≡ mixed_steps b e (min d1 d2) (max d1 d2)
  unfolding steps_of
  mixed-steps n = rw (ne_eqb d1 d2 n)

  pub recovered-made : Good b → Die d1 → Die d2 → (l : LegalEnd b d1 d2 e)
      → Made (steps_of b d1 d2 e) (dice_rolled d1 d2) b e × (length (steps_of b d1 d2 e) ≡ l.used)
  recovered-made g dd1 dd2 l = elim (ℕ_discrete d1 d2) [
    | yes q ↦
        let p : Play l.used (replicate 4 d1) b e = rw (double-dice d1 d2 q) at l.play in
        let h : l.used ≤ 4 = play-most l.used (replicate 4 d1) b e p in
        let s = in-doubles d1 l.used 25 b e ((double-sorted d1 l.used 4 b e dd1 g h).0 p) in
        rw (double-steps q, double-dice d1 d2 q) (double-made d1 dd1 l.used 4 4 25 b e g h h s)
    | no n ↦
        rw (mixed-steps n, mixed-dice d1 d2 n)
        (mixed-made b e (min d1 d2) (max d1 d2) g (smaller-die d1 d2 dd1 dd2) (larger-die d1 d2 dd1 dd2) l.used
        (rw (mixed-dice d1 d2 n) at l.play) (λ m t. l.most m e (rw (mixed-dice d1 d2 n) t)))
  ]

-- ---- how many

-- at most n steps
abbrev Few : ℕ → List Step → Type 0
Few n ts = length ts ≤ n

few-one : (b e : List ℤ) (f s l : ℕ) → Few 2 (one_checker b e f s l)
unfolding one_checker
few-one b e f s l =
    by_cond (leads_both b f s (f - s) l e) _ _ (Few 2) (λ t. omega arith) (λ t.
    by_cond (leads_both b f l (f - l) s e) _ _ (Few 2) (λ t. omega arith) (λ t.
    by_cond (leads b f s e) _ _ (Few 2) (λ t. omega arith) (λ t. by_cond (leads b f l e) _ _ (Few 2) (λ t. omega arith) (λ t. omega arith))))

few-two : (b e : List ℤ) (p q s l : ℕ) → Few 2 (two_checkers b e p q s l)
unfolding two_checkers
few-two b e p q s l =
    by_cond (leads_both b p l q s e) _ _ (Few 2) (λ t. omega arith) (λ t.
    by_cond (leads_both b p s q l e) _ _ (Few 2) (λ t. omega arith) (λ t.
    by_cond (leads_both b q l p s e) _ _ (Few 2) (λ t. omega arith) (λ t.
    by_cond (leads_both b q s p l e) _ _ (Few 2) (λ t. omega arith) (λ t. omega arith))))

mixed-at-most-two : (b e : List ℤ) (s l : ℕ) → length (mixed_steps b e s l) ≤ 2
unfolding mixed_steps
mixed-at-most-two b e s l =
    let f = lost b e 26 in
    by_cond (eqb f 0) _ _ (Few 2) (λ t. omega arith) (λ t.
    by_cond (eqb (lost_next b e f) 0) _ _ (Few 2) (λ u. few-one b e f s l) (λ u. few-two b e f (lost_next b e f) s l))

double-at-most : (d k : ℕ) (b e : List ℤ) → length (double_steps d k b e) ≤ k
unfolding double_steps
double-at-most d zero b e = omega arith
double-at-most d (suc k) b e =
    by_cond (eqb (lost b e 26) 0) _ _ (Few (suc k)) (λ t. omega arith) (λ t. omega (arith, double-at-most d k (stepped b (lost b e 26) d) e))

pub at-most-four : (b : List ℤ) (d1 d2 : ℕ) (e : List ℤ) → length (steps_of b d1 d2 e) ≤ 4
unfolding steps_of
at-most-four b d1 d2 e =
    by_cond (eqb d1 d2) _ _ (Few 4) (λ t. double-at-most d1 4 b e) (λ t. omega (arith, mixed-at-most-two b e (min d1 d2) (max d1 d2)))
