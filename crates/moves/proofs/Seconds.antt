-- The ends of a step from the points of a mask are the rules' list, with one origin left out or none; which origin is to be left out.
-- Assumes nothing.
use Rattle.std.proofs.Common.{Option, None, Some}
use mathlib.Core.Path.{◌≡◌, refl, sym, ap, ◌∙◌}
use mathlib.Core.Bool.{Bool, true, false, not, cond, ◌&&◌, and-true, and-false}
use mathlib.Core.List.{List, [], ◌∷◌, append-nil}
use Prim.Native.Nat.{ℕ, zero, suc, ◌+◌, ◌-◌, ◌^◌, ◌<◌, ◌≤◌}
use native.Mathlib.Omega.{arith}
use native.Mathlib.Decide.{ℕ_discrete}
use borrow.Author.Tests.{eq-eqb, ne_eqb}
use lib.Bits.{bit_and}
use lib.Dec.{ltb, eqb}
use lib.IntN.{ℤ}
use Rattle.ints.specs.Bits.{bit}
use Rattle.ints.specs.Masks.{IsMask, keep, those, those_down}
use Rattle.ints.proofs.Digits.{bit-and, bit-pow, bit-clear, bit-ext, bit-none}
use Rattle.ints.proofs.Masks.{those-mask}
use Rattle.ints.proofs.Tests.{and_right}
use Rattle.position.specs.Board.{xs, os}
use Rattle.position.specs.Step.{Good, can_step, stepped}
use Rattle.position.proofs.Steps.{can-none}
use Rattle.rules.specs.Ends.{up, down, after, only, single}
use Rattle.rules.specs.Omitted.{omits, unless_omitted}
use Rattle.dice.specs.Dice.{Die}
use Rattle.rules.proofs.Two.{can-good}
use Rattle.rules.proofs.Repeats.{omits-is}
use Rattle.moves.specs.Bytes.{steps, over}
use Rattle.moves.specs.Points.{Masked, origins_mask, after_mask}
use Rattle.moves.specs.Seconds.{left_out, Omits, up_but}
use Rattle.moves.proofs.Origins.{origins-are, up-origins, down-origins, after-masked, over-only}

-- ---- walks over all points

up-ext : (n : ℕ) (f g : ℕ → List (List ℤ)) → ((p : ℕ) → 0 < p → p ≤ n → f p ≡ g p) → up n f ≡ up n g
up-ext zero f g h = refl
up-ext (suc n) f g h = rw (up-ext n f g (λ p i j. h p i (omega arith)), h (suc n) (omega arith) (omega arith))

-- the bar is no origin where it is empty
from-points : (f : ℕ → List (List ℤ)) → f 25 ≡ [] → up 25 f ≡ up 24 f
from-points f e = rw e (append-nil (up 24 f))

bar-none : (c : List ℤ) (e : ℕ) → xs c 25 ≡ 0 → after c e only 25 ≡ []
unfolding after
bar-none c e h = rw (can-none c 25 e h)

pub but-points : (c : List ℤ) (e : ℕ) (w : Option ℕ) → xs c 25 ≡ 0 → up_but c e w 25 ≡ up_but c e w 24
unfolding up_but
but-points c e w h = from-points (λ q. cond (left_out w q) [] (after c e only q)) (rw (bar-none c e h) (go (left_out w 25)))
  where
    go : (t : Bool) → ◌≡◌ {A = List (List ℤ)} (cond t [] []) []
    go true = refl
    go false = refl

-- where none is left out
pub but-none : (c : List ℤ) (e top : ℕ) → up_but c e None top ≡ up top (after c e only)
unfolding up_but
but-none c e top = refl

-- the origin left out is the one whose end is omitted
pub but-omits : (b : List ℤ) (d e p : ℕ) (w : Option ℕ) (c : List ℤ) (top : ℕ) → Omits b d e p w → up_but c e w top ≡ up top (unless_omitted b d e p c)
unfolding up_but unless_omitted
but-omits b d e p w c top h =
    up-ext top (λ q. cond (left_out w q) [] (after c e only q)) (λ q. cond (omits b d e p q) [] (after c e only q)) (λ q i j. rw (h q i))

-- ---- the origin to leave out

pub none-omitted : (b : List ℤ) (d e p : ℕ) → (d < p → os b (p - d) ≡ 0 → os b (p - e) ≡ 0 → ⊥) → Omits b d e p None
none-omitted b d e p n q h = sym (go (omits b d e p q) refl)
  where
    go : (t : Bool) → omits b d e p q ≡ t → t ≡ false
    go false z = refl
    go true z = let f = (omits-is b d e p q).0 z in absurd (n (omega (arith, f.0)) f.1 f.2)

pub one-omitted : (b : List ℤ) (d e p : ℕ) → os b (p - d) ≡ 0 → os b (p - e) ≡ 0 → Omits b d e p (Some (p - d))
unfolding omits
one-omitted b d e p y z q h =
    rw (eq-eqb (os b (p - d)) 0 y, eq-eqb (os b (p - e)) 0 z) (sym (and-true (eqb q (p - d) && true) ∙ and-true (eqb q (p - d))))

-- a mask without a point
pub bit-without : (m q i : ℕ) → bit (m - bit_and m (2 ^ q)) i ≡ (bit m i && not (eqb i q))
bit-without m q i = go (bit m q) refl
  where
    meet : (j : ℕ) → bit (bit_and m (2 ^ q)) j ≡ (bit m j && eqb j q)
    meet j = bit-and m (2 ^ q) j ∙ ap (λ (t : Bool). bit m j && t) (bit-pow q j)

    at : (t : Bool) → bit m q ≡ t → (j : ℕ) → Dec (j ≡ q) → (bit m j && eqb j q) ≡ (eqb j q && t)
    at t e j (yes z) = rw (eq-eqb j q z) (and-true (bit m j) ∙ ap (bit m) z ∙ e)
    at t e j (no n) = rw (ne_eqb j q n) (and-false (bit m j))

    go : (t : Bool) → bit m q ≡ t → bit (m - bit_and m (2 ^ q)) i ≡ (bit m i && not (eqb i q))
    go true e =
        let z : bit_and m (2 ^ q) ≡ 2 ^ q =
        bit-ext (bit_and m (2 ^ q)) (2 ^ q) (λ j. meet j ∙ at true e j (ℕ_discrete j q) ∙ and-true (eqb j q) ∙ sym (bit-pow q j)) in
        rw z (bit-clear m q e i)
    go false e =
        let z : bit_and m (2 ^ q) ≡ 0 = bit-ext (bit_and m (2 ^ q)) 0 (λ j. meet j ∙ at false e j (ℕ_discrete j q) ∙ and-false (eqb j q) ∙ sym (bit-none j)) in
        let y : m - 0 ≡ m = omega arith in
        rw (z, y) (kept (ℕ_discrete i q))
      where
        kept : Dec (i ≡ q) → bit m i ≡ (bit m i && not (eqb i q))
        kept (yes z) = rw (eq-eqb i q z) (ap (bit m) z ∙ e ∙ sym (and-false (bit m i)))
        kept (no n) = rw (ne_eqb i q n) (sym (and-true (bit m i)))

-- ---- the same over the points of a mask

-- a point taken out of the mask
over-but : (c : List ℤ) (e : ℕ) (w : Option ℕ) (n k : ℕ) (f : ℕ → Bool)
    → over (λ q. cond (left_out w q) [] (only (stepped c q e))) (those n k f) ≡ steps c e (those n k (λ i. f i && not (left_out w i)))
unfolding those
over-but c e w zero k f = refl
over-but c e w (suc n) k f = go (f k) (left_out w k) refl (over-but c e w n (suc k) f)
  where
    g : ℕ → List (List ℤ)
    g q = cond (left_out w q) [] (only (stepped c q e))

    go : (s t : Bool) → left_out w k ≡ t → over g (those n (suc k) f) ≡ steps c e (those n (suc k) (λ i. f i && not (left_out w i)))
        → over g (keep s k (those n (suc k) f)) ≡ steps c e (keep (s && not t) k (those n (suc k) (λ i. f i && not (left_out w i))))
    go false t z ih = ih
    go true true z ih = rw z ih
    go true false z ih = rw z (ap (λ l. stepped c k e ∷ l) ih)

-- x and free are the masks that the generator keeps of the board b
pub record Kept (b : List ℤ) (x free : ℕ) : Type 0 where
  pub good : Good b
  pub masked : Masked b x free
  pub x_lt : x < 2 ^ 25
  pub free-lt : free < 2 ^ 25

module _ {b : List ℤ} {x free d : ℕ} (k : Kept b x free) (die : Die d) where
  pub kept-after : (p : ℕ) → can_step b p d ≡ true → after_mask b x p d < 2 ^ 25 → Kept (stepped b p d) (after_mask b x p d) free
  kept-after p can h = record {
    good = can-good b p d k.good can;
    masked = after-masked b x free d k.good k.masked k.x_lt k.free-lt die p can;
    x_lt = h;
    free-lt = k.free-lt;
  }

  module _ (top : ℕ) (h : top < 25) where
    -- from the points of its mask a die can be played
    pub origin-can : (p : ℕ) → bit (origins_mask x free d top) p ≡ true → can_step b p d ≡ true
    origin-can p e =
        and_right (ltb p (top + 1)) (can_step b p d)
        (sym (origins-are b x free d k.good k.masked k.x_lt k.free-lt die top h p) ∙ e)

    -- a list over all points up to top, low to high and high to low
    pub up-over : (f : ℕ → List ℤ → List (List ℤ))
        → over (λ p. f p (stepped b p d)) (those 25 0 (bit (origins_mask x free d top))) ≡ up top (λ p. after b d (f p) p)
    up-over f = sym (up-origins b x free d k.good k.masked k.x_lt k.free-lt die top h f)

    pub down-over : (f : ℕ → List ℤ → List (List ℤ))
        → over (λ p. f p (stepped b p d)) (those_down 25 (bit (origins_mask x free d top))) ≡ down top (λ p. after b d (f p) p)
    down-over f = sym (down-origins b x free d k.good k.masked k.x_lt k.free-lt die top h f)

    -- the ends of one step
    up-all : steps b d (those 25 0 (bit (origins_mask x free d top))) ≡ up top (after b d only)
    up-all = sym (over-only b d (those 25 0 (bit (origins_mask x free d top)))) ∙ up-over (λ p. only)

    pub down-all : steps b d (those_down 25 (bit (origins_mask x free d top))) ≡ down top (after b d only)
    down-all = sym (over-only b d (those_down 25 (bit (origins_mask x free d top)))) ∙ down-over (λ p. only)

    -- but for one origin
    pub up-but : (w : Option ℕ) (r : ℕ) → IsMask (λ i. bit (origins_mask x free d top) i && not (left_out w i)) r → steps b d (those 25 0 (bit r)) ≡ up_but b d w top
    unfolding up_but after
    up-but w r m =
        ap (steps b d) (those-mask 25 (λ i. bit (origins_mask x free d top) i && not (left_out w i)) r m)
        ∙ sym (over-but b d w 25 0 (bit (origins_mask x free d top))) ∙ up-over (λ q a. cond (left_out w q) [] (only a))
        ∙ up-ext top (λ q. after b d (λ a. cond (left_out w q) [] (only a)) q) (λ q. cond (left_out w q) [] (after b d only q))
        (λ q i j. swap (can_step b q d) (left_out w q) (stepped b q d))
      where
        swap : (s t : Bool) (a : List ℤ) → cond s (cond t [] (only a)) [] ≡ cond t [] (cond s (only a) [])
        swap true t a = refl
        swap false true a = refl
        swap false false a = refl

  -- all ends of one die
  pub single-all : (m : ℕ) → m ≡ origins_mask x free d 24 → steps b d (those 25 0 (bit m)) ≡ single b d
  unfolding single
  single-all m o =
      ap (λ (n : ℕ). steps b d (those 25 0 (bit n))) o ∙ up-all 24 (omega arith) ∙ sym (from-points (after b d only) (bar-none b d k.masked.bar))
