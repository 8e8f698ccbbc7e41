-- Whole numbers as f32: what a cast of a count gives, and that nothing is lost by it.
-- Assumes nothing.
use mathlib.Core.Path.{◌≡◌, refl}
use mathlib.Core.Bool.{not}
use mathlib.Core.List.{List, [], ◌∷◌, map}
use Prim.Native.Nat.{ℕ, zero, suc, ◌<◌, ◌≤◌}
use native.Mathlib.Omega.{arith}
use lib.Dec.{T, le→leb}
use lib.Ieee.{Float, nan, inf, fin, binary32, of_int, in_float, in_unsigned, to_unsigned, to_bits, of_bits, is_nan}
use lib.Ieee.Back.{unsigned_back}
use lib.Ieee.Bits.{of_bits-to_bits}
use lib.Ieee.Fits.{of_int-fits}
use lib.IntN.{pos}
use lib.ListN.{length, get_or}
use Rattle.inputs.specs.Inputs.{whole, bits}

-- the cast of a count
pub cast_is : (n : ℕ) → of_int binary32 (pos n) ≡ whole n
unfolding whole
cast_is n = refl

pub cast_ok : (n : ℕ) → n ≤ 16777216 → T (in_float binary32 (pos n))
unfolding in_float
cast_ok n h = le→leb n 16777216 h

-- "exactly": the f32 of a byte, read back, is the number
pub whole-exact : (n : ℕ) → n < 256 → to_unsigned 8 (whole n) ≡ n
unfolding whole
whole-exact n h = (unsigned_back binary32 8 n (cast_ok n (omega arith)) h).1

-- no whole number is a NaN, so that its bits can be told
number : (x : Float) → T (in_unsigned binary32 8 x) → T (not (is_nan x))
unfolding in_unsigned is_nan
number nan h = absurd h
number (inf s) h = tt
number (fin s m e) h = tt

pub whole-number : (n : ℕ) → n < 256 → T (not (is_nan (whole n)))
unfolding whole
whole-number n h = number (of_int binary32 (pos n)) (unsigned_back binary32 8 n (cast_ok n (omega arith)) h).0

-- the bits are those of the f32, and tell it
pub bits_back : (n : ℕ) → of_bits binary32 (bits n) ≡ whole n
unfolding bits whole
bits_back n = of_bits-to_bits binary32 (of_int binary32 (pos n)) (of_int-fits binary32 (pos n))

pub bits_is : (n : ℕ) → to_bits binary32 (whole n) ≡ bits n
unfolding bits
bits_is n = refl

-- a value of a list of them, or of their bits
pub mapped_at : {A : Type 0} (f : ℕ → A) (l : List ℕ) (k : ℕ) (d : A) → k < length l → get_or (map f l) k d ≡ f (get_or l k 0)
mapped_at f [] k d h = absurd (omega arith)
mapped_at f (x ∷ l) zero d h = refl
mapped_at f (x ∷ l) (suc k) d h = mapped_at f l k d (omega arith)
