-- The two masks of a board: how the code makes them, and what their digits tell.
-- Assumes nothing.
use mathlib.Core.Path.{◌≡◌, refl, sym, ap, ◌∙◌}
use mathlib.Core.Bool.{Bool, true, false, ◌&&◌, and-false}
use mathlib.Core.List.{List}
use mathlib.Core.Logic.{◌⊎◌, inl, inr}
use Prim.Native.Nat.{ℕ, ◌+◌, ◌-◌, ◌*◌, ◌^◌, ◌<◌, ◌≤◌}
use native.Mathlib.Decide.{ℕ_discrete}
use native.Mathlib.Omega.{arith}
use borrow.Author.Tests.{lt-ltb, le-ltb}
use lib.Dec.{ltb, leb, leb-suc-suc}
use lib.IntN.{ℤ, pos, negsuc}
use lib.Signed.{mag, lt_z, le_z}
use mir.Syntax.{w8}
use mir.Val.{bool_byte}
use Rattle.ints.specs.Bits.{bit, digit}
use Rattle.ints.specs.Masks.{IsMask}
use Rattle.ints.specs.Signed.{pos_part, neg_part}
use Rattle.ints.proofs.Bits.{digit-le}
use Rattle.ints.proofs.Packs.{Pack, pack-none, pack-bound, pack-push, pack-all}
use Rattle.ints.proofs.Signed.{held, held-is}
use Rattle.ints.proofs.Tests.{lt-or-le}
use Rattle.position.specs.Board.{entry, xs, os}
use Rattle.position.specs.Step.{Good}
use Rattle.position.proofs.Steps.{from-within}
use Rattle.moves.specs.Points.{inside, holds_x, is_free, Masked}

inside-yes : (p : ℕ) → 0 < p → p < 25 → inside p ≡ true
inside-yes p lo hi = rw (lt-ltb 0 p lo, lt-ltb p 25 hi)

inside-no : (p : ℕ) → 25 ≤ p → inside p ≡ false
inside-no p h = rw (le-ltb p 25 h) (and-false (ltb 0 p))

-- ---- a mask made point by point, from 24 down to 1, and a 0 for o's bar

-- what is asked of an entry: that x has a checker there, that o does not block
abbrev pub some_x : ℤ → Bool
some_x z = ltb 0 (pos_part z)

abbrev pub few_o : ℤ → Bool
few_o z = leb (neg_part z) 1

-- the code's tests of an entry, as digits
bool-digit : (t : Bool) → bool_byte t ≡ digit t
bool-digit true = refl
bool-digit false = refl

pub x_digit : (z : ℤ) → bool_byte (lt_z (pos 0) z) ≡ digit (some_x z)
x_digit (pos n) = bool-digit (ltb 0 n)
x_digit (negsuc n) = refl

pub free_digit : (z : ℤ) → bool_byte (le_z (negsuc 0) z) ≡ digit (few_o z)
free_digit (pos n) = refl
free_digit (negsuc n) = bool-digit (leb n 0) ∙ ap digit (sym (leb-suc-suc n 0))

-- the points whose entry passes the test
abbrev pub passing : List ℤ → (ℤ → Bool) → ℕ → Bool
passing b t p = inside p && t (entry b p)

-- the mask m has the points from p on
abbrev pub Packed : List ℤ → (ℤ → Bool) → ℕ → ℕ → Type 0
Packed b t p m = (0 < p) × Pack (passing b t) 25 p m

module _ (b : List ℤ) (t : ℤ → Bool) where
  pub packed_none : Packed b t 25 0
  packed_none = (omega arith, pack-none (passing b t) 25 (λ i h. rw (inside-no i h)))

  module _ (p m : ℕ) (k : Packed b t p m) where
    pub packed-bound : m * 2 + 1 < 2 ^ 25
    packed-bound = pack-bound (passing b t) 25 p m k.1 k.0

    -- the next point, by the digit r that the code makes of its entry
    module _ (r : ℕ) (e : r ≡ digit (t (held w8 (entry b (p - 1))))) where
      pub packed-fits : m * 2 + r < 2 ^ 25
      packed-fits = omega (arith, packed-bound, digit-le (t (held w8 (entry b (p - 1)))))

      pub packed_more : 1 < p → mag (entry b (p - 1)) < 128 → Packed b t (p - 1) (m * 2 + r)
      packed_more h f =
          let q = p - 1 in
          let i : passing b t q ≡ t (entry b q) = rw (inside-yes q (omega arith) (omega (arith, k.1.high))) in
          let s : r ≡ digit (t (entry b q)) = e ∙ ap (λ (z : ℤ). digit (t z)) (held-is w8 (entry b q) f) in
          (omega arith, pack-push (passing b t) 25 p m (m * 2 + r) (t (entry b q)) k.1 k.0 i (omega arith))

    pub packed_all : p ≤ 1 → IsMask (passing b t) (m * 2) × (m * 2 < 2 ^ 25)
    packed_all h =
        let z : p - 1 ≡ 0 = omega arith in
        let q = pack-push (passing b t) 25 p m (m * 2) false k.1 k.0 (rw z) (omega arith) in
        pack-all (passing b t) 25 (m * 2) (rw z at q)

-- ---- what a digit tells

-- with x on neither bar, the test of the points is one of every entry
pub holds-is : (b : List ℤ) → Good b → xs b 25 ≡ 0 → (i : ℕ) → holds_x b i ≡ ltb 0 (xs b i)
unfolding holds_x
holds-is b g e i = go (lt-or-le 0 (xs b i))
  where
    below : Dec (i ≡ 25) → i ≤ 25 → 0 < xs b i → i < 25
    below (yes q) l h = omega (arith, ap (xs b) q)
    below (no n) l h = omega arith

    go : (0 < xs b i) ⊎ (xs b i ≤ 0) → (inside i && ltb 0 (xs b i)) ≡ ltb 0 (xs b i)
    go (inl h) = let w = from-within b i g h in rw (inside-yes i w.0 (below (ℕ_discrete i 25) w.1 h))
    go (inr h) = rw (le-ltb 0 (xs b i) h) (and-false (inside i))

pub x-told : {b : List ℤ} {x free : ℕ} → Good b → Masked b x free → (i : ℕ) → bit x i ≡ ltb 0 (xs b i)
x-told {b} g m i = m.x-mask i ∙ holds-is b g m.bar i

pub free-is : (b : List ℤ) (i : ℕ) → 0 < i → i < 25 → is_free b i ≡ leb (os b i) 1
unfolding is_free
free-is b i lo hi = rw (inside-yes i lo hi)

pub free-bar : (b : List ℤ) → is_free b 0 ≡ false
unfolding is_free
free-bar b = refl
