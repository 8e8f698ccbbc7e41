-- Lists over the points of a mask, low to high and high to low.
-- Assumes nothing.
use mathlib.Core.Path.{◌≡◌, refl, sym, ap, ap₂, ◌∙◌}
use mathlib.Core.Bool.{Bool, true, false, cond, ◌&&◌}
use mathlib.Core.List.{List, [], ◌∷◌, ◌++◌, reverse, append_assoc, append-nil}
use Prim.Native.Nat.{ℕ, zero, suc, ◌+◌, ◌-◌, ◌≤◌}
use native.Mathlib.Omega.{arith}
use borrow.Author.Tests.{lt-ltb, le-ltb}
use lib.Dec.{ltb}
use Rattle.ints.specs.Bits.{bit}
use Rattle.ints.specs.Masks.{IsMask, keep, those, those_down}
use Rattle.ints.proofs.Masks.{those-ext, those-none, those-append, those-last, those-mask, down-mask, down-reverse}
use Rattle.rules.proofs.Lists.{Way, rising, falling, walk, Boards}
use Rattle.moves.specs.Bytes.{over}

-- the points below n of which t holds, in either direction
abbrev pub picked : Way → ℕ → (ℕ → Bool) → List ℕ
picked rising n t = those n 0 t
picked falling n t = those_down n t

pub picked-mask : (w : Way) (n : ℕ) (t : ℕ → Bool) (m : ℕ) → IsMask t m → picked w n (bit m) ≡ picked w n t
picked-mask rising n t m h = those-mask n t m h
picked-mask falling n t m h = down-mask n t m h

-- a bound in the test is a bound of the list
those-below : (m n : ℕ) (t : ℕ → Bool) → n ≤ m → those m 0 (λ p. ltb p n && t p) ≡ those n 0 t
those-below m n t h =
    let e : n + (m - n) ≡ m = omega arith in
    let f : ℕ → Bool = λ p. ltb p n && t p in
    ap (λ (k : ℕ). those k 0 f) (sym e) ∙ those-append n (m - n) 0 f
    ∙ ap₂ ◌++◌
    (those-ext n 0 f t (λ i lo hi. rw (lt-ltb i n (omega arith))))
    (those-none (m - n) (0 + n) f (λ i lo hi. rw (le-ltb i n (omega arith))))
    ∙ append-nil (those n 0 t)

pub picked-below : (w : Way) (m n : ℕ) (t : ℕ → Bool) → n ≤ m → picked w m (λ p. ltb p n && t p) ≡ picked w n t
picked-below rising m n t h = those-below m n t h
picked-below falling m n t h = down-reverse m (λ p. ltb p n && t p) ∙ ap reverse (those-below m n t h) ∙ sym (down-reverse n t)

-- ---- what h gives of the points

module _ (h : ℕ → Boards) where
  over-append : (l r : List ℕ) → over h (l ++ r) ≡ over h l ++ over h r
  over-append [] r = refl
  over-append (p ∷ l) r = ap (λ (q : Boards). h p ++ q) (over-append l r) ∙ sym (append_assoc (h p) (over h l) (over h r))

  over-keep : (t : Bool) (p : ℕ) (l : List ℕ) → over h (keep t p l) ≡ cond t (h p) [] ++ over h l
  over-keep true p l = refl
  over-keep false p l = refl

  -- a walk that passes over the points of which t does not hold
  pub walk-picked : (w : Way) (n : ℕ) (t : ℕ → Bool) → t 0 ≡ false → walk w n (λ p. cond (t p) (h p) []) ≡ over h (picked w (suc n) t)
  unfolding those those_down
  walk-picked rising zero t e = rw e
  walk-picked falling zero t e = rw e
  walk-picked rising (suc n) t e =
      let f : ℕ → Boards = λ p. cond (t p) (h p) [] in
      ap (λ (l : Boards). l ++ f (suc n)) (walk-picked rising n t e)
      ∙ sym (ap (over h) (those-last (suc n) t) ∙ over-append (those (suc n) 0 t) (keep (t (suc n)) (suc n) []) ∙ ap (λ (l : Boards). over h (those (suc n) 0 t) ++ l) (over-keep (t (suc n)) (suc n) [] ∙ append-nil (f (suc n))))
  walk-picked falling (suc n) t e =
      let f : ℕ → Boards = λ p. cond (t p) (h p) [] in
      ap (λ (l : Boards). f (suc n) ++ l) (walk-picked falling n t e) ∙ sym (over-keep (t (suc n)) (suc n) (those_down (suc n) t))
