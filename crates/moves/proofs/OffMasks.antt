-- The mask of bearing off has the point of which the rule holds: x there, the die reaches beyond it, no x on the points that must be clear.
-- Assumes nothing.
use mathlib.Core.Path.{◌≡◌, sym, ap, ◌∙◌}
use mathlib.Core.Bool.{Bool, true, false, ◌&&◌, and-true, and-false}
use mathlib.Core.Logic.{◌⊎◌, inl, inr}
use Prim.Native.Nat.{ℕ, suc, ◌+◌, ◌-◌, ◌*◌, ◌/◌, ◌%◌, ◌^◌, ◌<◌, ◌≤◌}
use native.Mathlib.Decide.{ℕ_discrete}
use native.Mathlib.Nat.{div-eq_of_lt, mod-lt}
use native.Mathlib.Omega.{arith}
use borrow.Author.Tests.{eq-eqb, ne_eqb, le-leb, lt-leb}
use lib.Bits.{bit_and}
use lib.Count.{count_leading_zeros}
use lib.Dec.{leb, eqb}
use lib.Pow.{pow_mono, pow_pos, split}
use Rattle.ints.specs.Bits.{bit}
use Rattle.ints.proofs.Tests.{lt-or-le}
use Rattle.ints.proofs.Digits.{bit-none, bit-lt, bit-top, bit-and, bit-pow, pow_below}
use Rattle.ints.proofs.Masks.{leading}
use Rattle.position.specs.Step.{off_from}
use Rattle.position.proofs.Steps.{off_from-exact, off_from-over, off_from-most}
use Rattle.moves.specs.Points.{off_mask}

-- whether a mask has a point from k on
none_left : (x k : ℕ) → x < 2 ^ k → eqb (x / 2 ^ k) 0 ≡ true
none_left x k h = eq-eqb (x / 2 ^ k) 0 (div-eq_of_lt h)

some_left : (x k : ℕ) → 2 ^ k ≤ x → eqb (x / 2 ^ k) 0 ≡ false
some_left x k h =
    ne_eqb (x / 2 ^ k) 0 (λ e. let s : 0 * 2 ^ k + x % 2 ^ k ≡ x = rw e at (split x k) in omega (arith, mod-lt x (pow_pos k)))

-- the four ways of the mask: x outside the home board; point d where x has any there or above; no x; the highest point
data OffWay (x d : ℕ) : Type 0 where
  outside : 2 ^ 7 ≤ x → off_mask x d ≡ 0 → OffWay x d
  exact : x < 2 ^ 7 → 2 ^ d ≤ x → off_mask x d ≡ bit_and x (2 ^ d) → OffWay x d
  empty : x ≡ 0 → off_mask x d ≡ 0 → OffWay x d
  highest : (j : ℕ) → x < 2 ^ d → 2 ^ j ≤ x → x < 2 ^ suc j → off_mask x d ≡ 2 ^ j → OffWay x d

off-way : (x d : ℕ) → x < 2 ^ 25 → OffWay x d
unfolding off_mask
off-way x d h = go (lt-or-le x (2 ^ 7)) (lt-or-le x (2 ^ d)) (ℕ_discrete x 0)
  where
    go : (x < 2 ^ 7) ⊎ (2 ^ 7 ≤ x) → (x < 2 ^ d) ⊎ (2 ^ d ≤ x) → Dec (x ≡ 0) → OffWay x d
    go (inr a) q z = outside a (rw (some_left x 7 a))
    go (inl a) (inr q) z = exact a q (rw (none_left x 7 a, some_left x d q))
    go (inl a) (inl q) (yes z) = empty z (rw (none_left x 7 a, none_left x d q, eq-eqb x 0 z))
    go (inl a) (inl q) (no n) =
        let t = leading 32 25 x (omega arith) n h in
        highest (31 - count_leading_zeros 32 x) q t.power t.above (rw (none_left x 7 a, none_left x d q, ne_eqb x 0 n))

-- the rule for the point i, by the mask of x's points
abbrev pub off_test : ℕ → ℕ → ℕ → Bool
off_test x d i = bit x i && leb i d && eqb (x / 2 ^ off_from i d) 0

module _ (x d i : ℕ) where
  off-beyond : d < i → off_test x d i ≡ false
  off-beyond h = rw (lt-leb i d h, and-false (bit x i))

  off-behind : (k : ℕ) → off_from i d ≤ k → 2 ^ k ≤ x → off_test x d i ≡ false
  off-behind k h l =
      let u : 2 ^ off_from i d ≤ 2 ^ k = pow_mono h in
      rw (some_left x (off_from i d) (omega arith)) (and-false (bit x i && leb i d))

  off-none : bit x i ≡ false → off_test x d i ≡ false
  off-none e = rw e

  off-from : bit x i ≡ true → i ≤ d → x < 2 ^ off_from i d → off_test x d i ≡ true
  off-from e h l = rw (e, le-leb i d h, none_left x (off_from i d) l)

pub off-is : (x d : ℕ) → x < 2 ^ 25 → d ≤ 6 → (i : ℕ) → bit (off_mask x d) i ≡ off_test x d i
off-is x d xl dl i = go (off-way x d xl)
  where
    -- x outside the home board
    nowhere : 2 ^ 7 ≤ x → (d < i) ⊎ (i ≤ d) → off_test x d i ≡ false
    nowhere a (inl h) = off-beyond x d i h
    nowhere a (inr h) = off-behind x d i 7 (off_from-most i d h dl) a

    -- point d and no other
    other : 2 ^ d ≤ x → (i ≡ d → ⊥) → (d < i) ⊎ (i ≤ d) → off_test x d i ≡ false
    other l n (inl h) = off-beyond x d i h
    other l n (inr h) = off-behind x d i d (omega (arith, off_from-over i d (omega arith))) l

    on : x < 2 ^ 7 → 2 ^ d ≤ x → Dec (i ≡ d) → (bit x i && eqb i d) ≡ off_test x d i
    on a l (yes e) =
        rw (eq-eqb i d e, le-leb i d (omega arith), off_from-exact i d e, none_left x 7 a) (sym (and-true (bit x i && true)))
    on a l (no n) = rw (ne_eqb i d n, and-false (bit x i)) (sym (other l n (lt-or-le d i)))

    -- the highest point j and no other
    lower : (j : ℕ) → j < d → 2 ^ j ≤ x → x < 2 ^ suc j → (i ≡ j → ⊥) → (i < j) ⊎ (j ≤ i) → off_test x d i ≡ false
    lower j jd lo hi n (inl h) = off-behind x d i j (omega (arith, off_from-over i d (omega arith))) lo
    lower j jd lo hi n (inr h) = off-none x d i (bit-lt x (suc j) i hi (omega arith))

    top : (j : ℕ) → j < d → 2 ^ j ≤ x → x < 2 ^ suc j → Dec (i ≡ j) → eqb i j ≡ off_test x d i
    top j jd lo hi (yes e) =
        let f : suc j ≡ off_from i d = omega (arith, off_from-over i d (omega arith)) in
        eq-eqb i j e ∙ sym (off-from x d i (ap (bit x) e ∙ bit-top x j lo hi) (omega arith) (rw f at hi))
    top j jd lo hi (no n) = ne_eqb i j n ∙ sym (lower j jd lo hi n (lt-or-le i j))

    go : OffWay x d → bit (off_mask x d) i ≡ off_test x d i
    go (outside a e) = rw e (bit-none i ∙ sym (nowhere a (lt-or-le d i)))
    go (exact a l e) = rw e (bit-and x (2 ^ d) i ∙ ap (λ (t : Bool). bit x i && t) (bit-pow d i) ∙ on a l (ℕ_discrete i d))
    go (empty z e) = rw e (bit-none i ∙ sym (off-none x d i (rw z (bit-none i))))
    go (highest j l lo hi e) = rw e (bit-pow j i ∙ top j (pow_below x d j lo l) lo hi (ℕ_discrete i j))
