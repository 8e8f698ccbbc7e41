-- Two boards that are no legal ends, from the rules of play alone (document 01, "Boards to try", 2 and 4): the direct bear-off, which uses
-- one die where both can be, and the smaller die where the larger could be used.
-- Assumes nothing.
use mathlib.Core.Path.{◌≡◌, refl, ap, subst}
use mathlib.Core.Logic.{inl, inr}
use mathlib.Core.Bool.{true, cond}
use mathlib.Core.List.{List, [], ◌∷◌}
use Prim.Native.Nat.{ℕ, zero, suc, ◌≤◌}
use native.Mathlib.Omega.{arith}
use borrow.Author.Tests.{eqb-true}
use lib.Dec.{eqb}
use lib.IntN.{ℤ}
use lib.ListN.{length}
use Rattle.ints.specs.Sums.{all}
use Rattle.ints.proofs.Tests.{all-at}
use Rattle.position.specs.Board.{xs, os}
use Rattle.position.specs.Words.{blank, x, o}
use Rattle.position.specs.Step.{Good, can_step, clear_from, off_from, stepped, lifted, landed}
use Rattle.rules.specs.Plays.{dice_rolled, Play, LegalEnd}
use Rattle.rules.proofs.Two.{can-within}
use Rattle.rules.proofs.Plays.{play-most}

module _ (b : List ℤ) (d : ℕ) (size : length b ≡ 26) (o-bar : xs b 0 ≡ 0) where
  good : Good b
  good = record { size = size; o-bar = o-bar }

  -- where the test of every other point fails, a step by d is from q
  from_one : (q : ℕ) → all (λ p. cond (can_step b p d) (eqb p q) true) 26 ≡ true → (p : ℕ) → can_step b p d ≡ true → p ≡ q
  from_one q t p c =
      let w = can-within b p d good c in
      eqb-true p q (rw c at (all-at (λ p. cond (can_step b p d) (eqb p q) true) 26 p t (omega arith)))

  -- where every test fails, no step by d is made: 26 is no point
  from-none : all (λ p. cond (can_step b p d) (eqb p 26) true) 26 ≡ true → (p : ℕ) → can_step b p d ≡ true → ⊥
  from-none t p c = omega (arith, from_one 26 t p c, can-within b p d good c)

-- ---- board 2: lone x on 5, o 20:1 and 4:1, dice 6-1

abbrev home : List ℤ
home = x 5 1 (o 20 1 (o 4 1 blank))

abbrev hit : List ℤ
hit = x 4 1 (o 20 1 (o 0 1 blank))

abbrev hit-and-off : List ℤ
hit-and-off = o 20 1 (o 0 1 blank)

abbrev direct-off : List ℤ
direct-off = o 20 1 (o 4 1 blank)

both_used : Play 2 (6 ∷ 1 ∷ []) home hit-and-off
unfolding can_step clear_from off_from all stepped lifted landed
both_used = inr (inl (5, refl, inl (4, refl, refl)))

not-by-both : Play 2 (6 ∷ 1 ∷ []) home direct-off → ⊥
unfolding can_step clear_from off_from all stepped lifted landed
not-by-both (inl (p, c, inl (q, k, z))) =
    let e = from_one home 6 refl refl 5 refl p c in
    from-none direct-off 1 refl refl refl q (subst (λ (i : ℕ). can_step (stepped home i 6) q 1 ≡ true) e k)
not-by-both (inl (p, c, inr z)) = absurd z
not-by-both (inr (inl (p, c, inl (q, k, z)))) =
    let e = from_one home 1 refl refl 5 refl p c in
    let f = from_one hit 6 refl refl 4 refl q (subst (λ (i : ℕ). can_step (stepped home i 1) q 6 ≡ true) e k) in
    let h = subst (λ (i : ℕ). direct-off ≡ stepped (stepped home i 1) q 6) e z in
    let r = subst (λ (i : ℕ). direct-off ≡ stepped hit i 6) f h in
    omega (arith, ap (λ (b : List ℤ). os b 0) r)
not-by-both (inr (inl (p, c, inr z))) = absurd z
not-by-both (inr (inr z)) = absurd z

pub direct-off-no-end : LegalEnd home 6 1 direct-off → ⊥
unfolding dice_rolled
direct-off-no-end l = go l.used (l.most 2 hit-and-off both_used) l.play
  where
    go : (k : ℕ) → 2 ≤ k → Play k (6 ∷ 1 ∷ []) home direct-off → ⊥
    go zero h z = omega arith
    go (suc zero) h z = omega arith
    go (suc (suc zero)) h z = not-by-both z
    go (suc (suc (suc k))) h z = omega (arith, play-most (suc (suc (suc k))) (6 ∷ 1 ∷ []) home direct-off z)

-- ---- board 4: lone x on the bar, o 14:2, dice 6-5; either die enters and neither can go on

abbrev barred : List ℤ
barred = x 25 1 (o 14 2 blank)

abbrev by-6 : List ℤ
by-6 = x 19 1 (o 14 2 blank)

abbrev by-5 : List ℤ
by-5 = x 20 1 (o 14 2 blank)

not-both : (e : List ℤ) → Play 2 (6 ∷ 5 ∷ []) barred e → ⊥
unfolding can_step clear_from off_from all stepped lifted landed
not-both e (inl (p, c, inl (q, k, z))) =
    let h = from_one barred 6 refl refl 25 refl p c in
    from-none by-6 5 refl refl refl q (subst (λ (i : ℕ). can_step (stepped barred i 6) q 5 ≡ true) h k)
not-both e (inl (p, c, inr z)) = absurd z
not-both e (inr (inl (p, c, inl (q, k, z)))) =
    let h = from_one barred 5 refl refl 25 refl p c in
    from-none by-5 6 refl refl refl q (subst (λ (i : ℕ). can_step (stepped barred i 5) q 6 ≡ true) h k)
not-both e (inr (inl (p, c, inr z))) = absurd z
not-both e (inr (inr z)) = absurd z

not-by-6 : Play 1 (6 ∷ []) barred by-5 → ⊥
unfolding can_step clear_from off_from all stepped lifted landed
not-by-6 (inl (p, c, z)) =
    let h = from_one barred 6 refl refl 25 refl p c in
    let r = subst (λ (i : ℕ). by-5 ≡ stepped barred i 6) h z in
    omega (arith, ap (λ (b : List ℤ). xs b 20) r)
not-by-6 (inr z) = absurd z

pub smaller-no-end : LegalEnd barred 6 5 by-5 → ⊥
unfolding dice_rolled can_step clear_from off_from all
smaller-no-end l = go l.used refl l.play
  where
    go : (k : ℕ) → l.used ≡ k → Play k (6 ∷ 5 ∷ []) barred by-5 → ⊥
    go zero e z = omega (arith, ap (λ (b : List ℤ). xs b 25) z)
    go (suc zero) e z = not-by-6 (l.larger e 25 refl)
    go (suc (suc zero)) e z = not-both by-5 z
    go (suc (suc (suc k))) e z = omega (arith, play-most (suc (suc (suc k))) (6 ∷ 5 ∷ []) barred by-5 z)
