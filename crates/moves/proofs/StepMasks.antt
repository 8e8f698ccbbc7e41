-- A legal step keeps the masks: x's points change as `after` computes it, and o blocks the same points.
-- Assumes nothing.
use mathlib.Core.Path.{◌≡◌, sym, ap, ◌∙◌}
use mathlib.Core.Bool.{cond, ◌&&◌, ◌||◌, or-true, or-false}
use mathlib.Core.List.{List}
use mathlib.Core.Logic.{◌⊎◌, inl, inr}
use Prim.Native.Nat.{ℕ, ◌+◌, ◌-◌, ◌^◌, ◌<◌, ◌≤◌}
use native.Mathlib.Decide.{ℕ_discrete, dec_lt}
use native.Mathlib.Omega.{arith}
use borrow.Author.Tests.{eq-eqb, ne_eqb, lt-ltb, le-ltb, le-leb}
use lib.Bits.{bit_or, bit_xor}
use lib.Dec.{ltb, leb, eqb}
use lib.IntN.{ℤ}
use Rattle.ints.specs.Bits.{bit}
use Rattle.ints.specs.Sums.{one}
use Rattle.ints.proofs.Sums.{one_same, one-other}
use Rattle.ints.proofs.Digits.{bit-or-pow, bit-xor-pow}
use Rattle.position.specs.Board.{xs, os}
use Rattle.position.specs.Step.{Good, Legal, stepped}
use Rattle.position.proofs.Steps.{AfterStep, from-within, step-law, step-good, reached, reached-on, reached-off, reached-cases, reached-above}
use Rattle.moves.specs.Points.{inside, is_free, Masked, after_mask}
use Rattle.moves.proofs.BoardMasks.{holds-is, x-told}

module _ (b : List ℤ) (x free p d : ℕ) (g : Good b) (m : Masked b x free) (low : 0 < d) (l : Legal b p d) where
  done : AfterStep b (stepped b p d) p d
  done = step-law b p d g l

  -- ---- x's points

  -- x's points without the last checker of p
  abbrev rest : ℕ
  rest = cond (eqb (xs b p) 1) (bit_xor x (2 ^ p)) x

  rest-told : (i : ℕ) → Dec (p ≡ i) → Dec (xs b p ≡ 1) → bit rest i ≡ ltb 0 (xs b i - one p i)
  rest-told i (yes q) (yes z) =
      let s = ap (xs b) q in
      rw (eq-eqb (xs b p) 1 z)
      (bit-xor-pow x p i ∙ rw (eq-eqb i p (sym q), x-told g m i, lt-ltb 0 (xs b i) (omega arith)) (sym (le-ltb 0 (xs b i - one p i) (omega (arith, one_same p i q)))))
  rest-told i (yes q) (no n) =
      let s = ap (xs b) q in
      let h = l.has in
      rw (ne_eqb (xs b p) 1 n)
      (x-told g m i ∙ lt-ltb 0 (xs b i) (omega arith) ∙ sym (lt-ltb 0 (xs b i - one p i) (omega (arith, one_same p i q, n))))
  rest-told i (no w) z = let s : xs b i ≡ xs b i - one p i = omega (arith, one-other p i w) in by z ∙ x-told g m i ∙ ap (ltb 0) s
    where
      by : Dec (xs b p ≡ 1) → bit rest i ≡ bit x i
      by (yes z) = rw (eq-eqb (xs b p) 1 z) (bit-xor-pow x p i ∙ rw (ne_eqb i p (λ q. w (sym q))))
      by (no n) = rw (ne_eqb (xs b p) 1 n)

  -- the step law, solved for x after the step
  count : (i : ℕ) → xs (stepped b p d) i ≡ xs b i - one p i + reached p d i
  count i = elim (ℕ_discrete p i) [
    | yes q ↦ let s = ap (xs b) q in omega (arith, done.x i, one_same p i q, l.has)
    | no n ↦ omega (arith, done.x i, one-other p i n)
  ]

  after-told : (i : ℕ) → bit (after_mask b x p d) i ≡ ltb 0 (xs (stepped b p d) i)
  unfolding after_mask
  after-told i = go (dec_lt d p)
    where
      t : bit rest i ≡ ltb 0 (xs b i - one p i)
      t = rest-told i (ℕ_discrete p i) (ℕ_discrete (xs b p) 1)

      landed : d < p → Dec (p - d ≡ i) → (ltb 0 (xs b i - one p i) || eqb i (p - d)) ≡ ltb 0 (xs (stepped b p d) i)
      landed h (yes q) =
          rw (eq-eqb i (p - d) (sym q), or-true)
          (sym (lt-ltb 0 (xs (stepped b p d) i) (omega (arith, count i, reached-on p d i h, one_same (p - d) i q))))
      landed h (no n) =
          let s : xs b i - one p i ≡ xs (stepped b p d) i = omega (arith, count i, reached-on p d i h, one-other (p - d) i n) in
          rw (ne_eqb i (p - d) (λ q. n (sym q)), or-false) (ap (ltb 0) s)

      go : Dec (d < p) → bit (cond (ltb d p) (bit_or rest (2 ^ (p - d))) rest) i ≡ ltb 0 (xs (stepped b p d) i)
      go (yes h) = rw (lt-ltb d p h) (bit-or-pow rest (p - d) i ∙ rw t (landed h (ℕ_discrete (p - d) i)))
      go (no n) =
          let s : xs b i - one p i ≡ xs (stepped b p d) i = omega (arith, count i, reached-off p d i (omega arith)) in
          rw (le-ltb d p (omega arith)) (t ∙ ap (ltb 0) s)

  -- ---- the points that o does not block

  free-kept : (i : ℕ) → is_free b i ≡ is_free (stepped b p d) i
  unfolding is_free
  free-kept i = go (ℕ_discrete i 0) (reached-cases p d i)
    where
      go : Dec (i ≡ 0) → (reached p d i ≡ 0) ⊎ ((d < p) × (i ≡ p - d)) → (inside i && leb (os b i) 1) ≡ (inside i && leb (os (stepped b p d) i) 1)
      go (yes z) r = rw z
      go (no n) (inl r) =
          let s : os b i ≡ os (stepped b p d) i = omega (arith, done.o i (omega (arith, n))) in
          ap (λ (k : ℕ). inside i && leb k 1) s
      go (no n) (inr r) =
          let s = ap (os b) r.1 in
          let u : os b i ≤ 1 = omega (arith, l.on r.0) in
          rw (le-leb (os b i) 1 u, le-leb (os (stepped b p d) i) 1 (omega (arith, done.o i (omega (arith, n)))))

  -- ---- the masks

  pub step-masked : Masked (stepped b p d) (after_mask b x p d) free
  step-masked =
      let w = from-within b p g l.has in
      let z : xs (stepped b p d) 25 ≡ 0 = omega (arith, count 25, m.bar, reached-above p d 25 low w.1) in
      record {
        x-mask = λ i. after-told i ∙ sym (holds-is (stepped b p d) (step-good b p d g l) z i);
        free-mask = λ i. m.free-mask i ∙ free-kept i;
        bar = z;
      }
