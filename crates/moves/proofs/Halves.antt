-- The two halves of a mixed roll's list with x's bar empty, over the points of a mask. Assumes nothing.
use Rattle.std.proofs.Common.{Option}
use mathlib.Core.Path.{◌≡◌, refl, sym, ap, ap₂, ◌∙◌}
use mathlib.Core.Bool.{Bool, true, false, not, ◌&&◌}
use mathlib.Core.List.{List, []}
use mathlib.Core.Logic.{◌⊎◌, inl, inr}
use Prim.Native.Nat.{ℕ, ◌+◌, ◌-◌, ◌/◌, ◌^◌, ◌<◌, ◌≤◌}
use native.Mathlib.Omega.{arith}
use borrow.Author.Tests.{ltb-false, lt-ltb, le-ltb}
use lib.Dec.{ltb}
use lib.IntN.{ℤ}
use lib.ListN.{length, length-append}
use Rattle.ints.specs.Bits.{bit}
use Rattle.ints.specs.Masks.{IsMask, those, those_down}
use Rattle.ints.proofs.Digits.{bit-shr, bit-none, bit-ext, bit-lt}
use Rattle.ints.proofs.Tests.{lt-or-le}
use Rattle.position.specs.Board.{xs}
use Rattle.position.specs.Step.{clear_from, can_step, stepped}
use Rattle.position.proofs.Steps.{clear-yes, clear_at}
use Rattle.rules.specs.Ends.{up, down, after, only, from_top}
use Rattle.rules.specs.Omitted.{unless_omitted, low_once}
use Rattle.dice.specs.Dice.{Die}
use Rattle.rules.proofs.Bound.{length_both}
use Rattle.rules.proofs.Repeats.{both-free}
use Rattle.moves.specs.Bytes.{steps, over}
use Rattle.moves.specs.Points.{holds_x, origins_mask, after_mask}
use Rattle.moves.specs.Seconds.{left_out, Omits}
use Rattle.moves.proofs.Seconds.{Kept, kept-after, up-over, down-over, down-all, up-but, but-omits}

-- the ends that begin with a step from p: by the smaller die s, and by the larger die l
abbrev pub top_from : List ℤ → ℕ → ℕ → ℕ → List (List ℤ)
top_from b s l p = down p (after (stepped b p s) l only)

abbrev pub low_from : List ℤ → ℕ → ℕ → ℕ → List (List ℤ)
low_from b l s p = up (p - 1) (unless_omitted b l s p (stepped b p l))

module _ {b : List ℤ} {x free : ℕ} (k : Kept b x free) where
  -- x's mask shifted down by n is 0 where no x stands from n on
  module _ (n : ℕ) (low : 0 < n) where
    pub shifted-clear : x / 2 ^ n ≡ 0 → clear_from b n ≡ true
    unfolding holds_x
    shifted-clear z = clear-yes b n (λ i l u. omega (arith, ltb-false 0 (xs b i) (none i l u)))
      where
        none : (i : ℕ) → n ≤ i → i < 25 → ltb 0 (xs b i) ≡ false
        none i l u =
            let e : n + (i - n) ≡ i = omega arith in
            let f : bit x i ≡ false = ap (bit x) (sym e) ∙ sym (bit-shr x n (i - n)) ∙ rw z (bit-none (i - n)) in
            rw (lt-ltb 0 i (omega arith), lt-ltb i 25 u) at (sym (k.masked.x-mask i) ∙ f)

    pub shifted-held : (x / 2 ^ n ≡ 0 → ⊥) → clear_from b n ≡ false
    unfolding holds_x
    shifted-held h = go (clear_from b n) refl
      where
        go : (t : Bool) → clear_from b n ≡ t → t ≡ false
        go false z = refl
        go true z = absurd (h (bit-ext (x / 2 ^ n) 0 (λ i. bit-shr x n i ∙ none i (lt-or-le (n + i) 25) ∙ sym (bit-none i))))
          where
            none : (i : ℕ) → (n + i < 25) ⊎ (25 ≤ n + i) → bit x (n + i) ≡ false
            none i (inr u) = bit-lt x 25 (n + i) k.x_lt u
            none i (inl u) =
                k.masked.x-mask (n + i)
                ∙ rw (lt-ltb 0 (n + i) (omega arith), lt-ltb (n + i) 25 u)
                (le-ltb 0 (xs b (n + i)) (omega (arith, clear_at b n z (n + i) (omega arith) u)))

  module _ {s l : ℕ} (ds : Die s) (dl : Die l) where
    pub top-over : over (top_from b s l) (those_down 25 (bit (origins_mask x free s 24))) ≡ from_top b s l
    unfolding from_top
    top-over = down-over k ds 24 (omega arith) (λ p c. down p (after c l only))

    -- y are x's points after the first step, m the origins of the second
    pub top-turn : (p y f m : ℕ) → p < 25 → can_step b p s ≡ true → (y ≡ after_mask b x p s) × (f ≡ free) → y < 2 ^ 25 → m ≡ origins_mask y f l p
        → steps (stepped b p s) l (those_down 25 (bit m)) ≡ top_from b s l p
    top-turn p y f m h can a small o =
        ap (λ (n : ℕ). steps (stepped b p s) l (those_down 25 (bit n))) (o ∙ ap₂ (λ n g. origins_mask n g l p) a.0 a.1)
        ∙ down-all (kept-after k ds p can (omega (arith, a.0))) dl p h

    pub low-over : clear_from b (s + 1) ≡ false → over (low_from b l s) (those 25 0 (bit (origins_mask x free l 24))) ≡ low_once b l s
    unfolding low_once
    low-over z = rw z (up-over k dl 24 (omega arith) (λ p c. up (p - 1) (unless_omitted b l s p c)))

    pub low-none : clear_from b (s + 1) ≡ true → low_once b l s ≡ []
    unfolding low_once
    low-none z = rw z

    -- the same, and r are the origins without w, which is to be left out after p
    pub low_turn : (p y f m : ℕ) (w : Option ℕ) (r : ℕ) → p < 25 → can_step b p l ≡ true → (y ≡ after_mask b x p l) × (f ≡ free) → y < 2 ^ 25 → m ≡ origins_mask y f s (p - 1)
        → Omits b l s p w → IsMask (λ i. bit m i && not (left_out w i)) r → steps (stepped b p l) s (those 25 0 (bit r)) ≡ low_from b l s p
    low_turn p y f m w r h can a small o left without =
        let e : m ≡ origins_mask (after_mask b x p l) free s (p - 1) = o ∙ ap₂ (λ n g. origins_mask n g s (p - 1)) a.0 a.1 in
        up-but (kept-after k dl p can (omega (arith, a.0))) ds (p - 1) (omega arith) w r (λ i. without i ∙ ap (λ (n : ℕ). bit n i && not (left_out w i)) e)
        ∙ but-omits b l s p w (stepped b p l) (p - 1) left

    -- both halves together are few
    pub halves-few : s < l → length (from_top b s l) + length (low_once b l s) ≤ 576
    halves-few lt =
        omega (
          arith,
          length_both b s l,
          ap length (both-free b s l k.good ds dl lt k.masked.bar),
          length-append (from_top b s l) (low_once b l s),
        )
