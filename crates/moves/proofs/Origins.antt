-- From masks to the rules: the points of a mask of origins are those from which the die can be played, and a step keeps the masks.
-- Assumes nothing.
use mathlib.Core.Path.{◌≡◌, refl, sym, ap, ◌∙◌}
use mathlib.Core.Bool.{Bool, true, false, not, ◌&&◌, ◌||◌, or-false}
use mathlib.Core.List.{List, [], ◌∷◌}
use mathlib.Core.Logic.{◌⊎◌, inl, inr}
use Prim.Native.Nat.{ℕ, zero, suc, ◌+◌, ◌-◌, ◌*◌, ◌/◌, ◌^◌, ◌<◌, ◌≤◌}
use native.Mathlib.Decide.{ℕ_discrete}
use native.Mathlib.Omega.{arith}
use borrow.Author.Tests.{ne_eqb, lt-ltb, ltb-true, ltb-false, le-leb, lt-leb}
use lib.Bits.{bit_and, bit_or}
use lib.Dec.{ltb, leb, eqb}
use lib.IntN.{ℤ}
use Rattle.ints.specs.Bits.{bit}
use Rattle.ints.specs.Masks.{IsMask, those, those_down}
use Rattle.ints.proofs.Tests.{lt-or-le}
use Rattle.ints.proofs.Digits.{bit_below, bit-and, bit-or, bit-mod, bit-shl-lt, bit-shl-ge}
use Rattle.ints.proofs.Masks.{all-ext, none_from}
use Rattle.position.specs.Board.{xs, os}
use Rattle.position.specs.Step.{Good, clear_from, off_from, can_step, stepped}
use Rattle.position.proofs.Steps.{can-none, can-land, can-off, bar-empty, off_from-most, test-legal}
use Rattle.rules.specs.Ends.{up, down, after, only}
use Rattle.dice.specs.Dice.{Die}
use Rattle.rules.proofs.Lists.{Way, rising, falling, walk}
use Rattle.moves.specs.Bytes.{steps, over}
use Rattle.moves.specs.Points.{is_free, Masked, off_mask, origins_mask, after_mask}
use Rattle.moves.proofs.BoardMasks.{x-told, free-is, free-bar}
use Rattle.moves.proofs.OffMasks.{off_test, off-is}
use Rattle.moves.proofs.StepMasks.{step-masked}
use Rattle.moves.proofs.Walks.{picked, picked-mask, picked-below, walk-picked}

not-above : (n : ℕ) → not (ltb 0 n) ≡ eqb n 0
not-above zero = refl
not-above (suc n) = rw (lt-ltb 0 (suc n) (omega arith), ne_eqb (suc n) 0 (λ q. omega arith))

module _ (b : List ℤ) (x free d : ℕ) (g : Good b) (m : Masked b x free) (xl : x < 2 ^ 25) (fl : free < 2 ^ 25) (die : Die d) where
  -- ---- the origins

  -- no x from k on
  clear-is : (k : ℕ) → k ≤ 25 → eqb (x / 2 ^ k) 0 ≡ clear_from b k
  unfolding clear_from
  clear-is k h =
      let e : k + (25 - k) ≡ 25 = omega arith in
      none_from k (25 - k) (λ i. ltb 0 (xs b i)) x (x-told g m) (rw e xl)
      ∙ all-ext (25 - k) (λ i. not (ltb 0 (xs b (k + i)))) (λ i. eqb (xs b (k + i)) 0) (λ i. not-above (xs b (k + i)))

  -- a digit of the shifted mask: whether the checker can land, and nothing where it leaves the board
  lands : (i : ℕ) → d < i → i < 25 → bit (free * 2 ^ d) i ≡ leb (os b (i - d)) 1
  lands i h l =
      bit-shl-ge free d i (omega arith) ∙ m.free-mask (i - d) ∙ free-is b (i - d) (omega arith) (omega (arith, die.low))

  leaves : (i : ℕ) → i ≤ d → bit (free * 2 ^ d) i ≡ false
  leaves i h = elim (ℕ_discrete i d) [
    | yes e ↦
        let z : i - d ≡ 0 = omega arith in
        bit-shl-ge free d i (omega arith) ∙ m.free-mask (i - d) ∙ ap (is_free b) z ∙ free-bar b
    | no n ↦ bit-shl-lt free d i (omega arith)
  ]

  -- a digit of the mask before it is cut at top
  origin-is : (i : ℕ) → (bit x i && bit (free * 2 ^ d) i || off_test x d i) ≡ can_step b i d
  origin-is i = go (bit x i) refl
    where
      held : 0 < xs b i → i < 25 → (d < i) ⊎ (i ≤ d) → (bit (free * 2 ^ d) i || (leb i d && eqb (x / 2 ^ off_from i d) 0)) ≡ can_step b i d
      held h l q =
          let bar = bar-empty b i d (λ e. omega arith) m.bar in
          elim q [
            | inl u ↦ rw (lands i u l, lt-leb i d u, can-land b i d h bar u) (or-false (leb (os b (i - d)) 1))
            | inr u ↦
                rw (leaves i u, le-leb i d u, can-off b i d h bar u)
                (clear-is (off_from i d) (omega (arith, off_from-most i d u die.high)))
          ]

      go : (t : Bool) → bit x i ≡ t → (t && bit (free * 2 ^ d) i || (t && leb i d && eqb (x / 2 ^ off_from i d) 0)) ≡ can_step b i d
      go true e = held (ltb-true 0 (xs b i) (sym (x-told g m i) ∙ e)) (bit_below x 25 i e xl) (lt-or-le d i)
      go false e = let z = ltb-false 0 (xs b i) (sym (x-told g m i) ∙ e) in sym (can-none b i d (omega arith))

  -- the mask of origins has exactly the points up to top from which the die can be played
  pub origins-are : (top : ℕ) → top < 25 → IsMask (λ p. ltb p (top + 1) && can_step b p d) (origins_mask x free d top)
  unfolding origins_mask
  origins-are top h i =
      let n = bit_and x (free * 2 ^ d) in
      bit-mod (bit_or n (off_mask x d)) (top + 1) i
      ∙ ap (λ (t : Bool). ltb i (top + 1) && t) (bit-or n (off_mask x d) i ∙ rw (bit-and x (free * 2 ^ d) i, off-is x d xl die.high i) (origin-is i))

  -- a list over all points up to top is one over the mask's points
  walk-origins : (w : Way) (top : ℕ) → top < 25 → (k : ℕ → List ℤ → List (List ℤ))
      → walk w top (λ p. after b d (k p) p) ≡ over (λ p. k p (stepped b p d)) (picked w 25 (bit (origins_mask x free d top)))
  unfolding after
  walk-origins w top h k =
      let e : top + 1 ≡ suc top = omega arith in
      let t : ℕ → Bool = λ p. can_step b p d in
      let points : picked w 25 (bit (origins_mask x free d top)) ≡ picked w (suc top) t =
      picked-mask w 25 (λ p. ltb p (top + 1) && t p) (origins_mask x free d top) (origins-are top h) ∙ picked-below w 25 (top + 1) t (omega arith) ∙ ap (λ (n : ℕ). picked w n t) e in
      walk-picked (λ p. k p (stepped b p d)) w top t (can-none b 0 d g.o-bar) ∙ ap (over (λ p. k p (stepped b p d))) (sym points)

  pub up-origins : (top : ℕ) → top < 25 → (k : ℕ → List ℤ → List (List ℤ))
      → up top (λ p. after b d (k p) p) ≡ over (λ p. k p (stepped b p d)) (those 25 0 (bit (origins_mask x free d top)))
  up-origins top h k = walk-origins rising top h k

  pub down-origins : (top : ℕ) → top < 25 → (k : ℕ → List ℤ → List (List ℤ))
      → down top (λ p. after b d (k p) p) ≡ over (λ p. k p (stepped b p d)) (those_down 25 (bit (origins_mask x free d top)))
  down-origins top h k = walk-origins falling top h k

  -- ---- a step

  -- a step keeps the masks: x's changes as `after` computes it, and what o does not block stays
  pub after-masked : (p : ℕ) → can_step b p d ≡ true → Masked (stepped b p d) (after_mask b x p d) free
  after-masked p e = step-masked b x free p d g m die.low (test-legal b p d e)

-- one end a point
pub over-only : (b : List ℤ) (d : ℕ) (ps : List ℕ) → over (λ p. only (stepped b p d)) ps ≡ steps b d ps
over-only b d [] = refl
over-only b d (p ∷ ps) = ap (λ (l : List (List ℤ)). stepped b p d ∷ l) (over-only b d ps)
