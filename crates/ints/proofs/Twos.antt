-- Laws of two's complement, there and back. An entry fits where `mag z < 128`, which is -128 ≤ z ≤ 127. Assumes nothing.
use mathlib.Core.Path.{◌≡◌, refl, sym, ap, ◌∙◌}
use mathlib.Core.Bool.{Bool, true, false, cond}
use Prim.Native.Nat.{ℕ, ◌-◌, ◌<◌}
use native.Mathlib.Omega.{arith}
use borrow.Author.Tests.{lt-ltb, le-ltb}
use lib.Dec.{ltb}
use lib.IntN.{ℤ, pos, negsuc}
use lib.Signed.{mag}
use Rattle.ints.specs.Twos.{twos, from_twos}

pub from-twos : (z : ℤ) → mag z < 128 → from_twos (twos z) ≡ z
unfolding twos from_twos
from-twos (pos n) h = rw (lt-ltb n 128 h)
from-twos (negsuc n) h = let e : 255 - (255 - n) ≡ n = omega arith in rw (le-ltb (255 - n) 128 (omega arith), e)

pub twos-from : (n : ℕ) → n < 256 → twos (from_twos n) ≡ n
unfolding twos from_twos
twos-from n h = go (ltb n 128) refl
  where
    go : (t : Bool) → ltb n 128 ≡ t → twos (cond t (pos n) (negsuc (255 - n))) ≡ n
    go true e = refl
    go false e = omega arith

pub twos-injective : (y z : ℤ) → mag y < 128 → mag z < 128 → twos y ≡ twos z → y ≡ z
twos-injective y z f g e = sym (from-twos y f) ∙ ap from_twos e ∙ from-twos z g
