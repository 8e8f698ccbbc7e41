-- The byte of a signed entry.
use Rattle.std.specs.Prelude.{cond, ℕ, ◌-◌, ltb, ℤ, pos, negsuc}

-- "Steps and ends": a listed entry is a byte in two's complement: 0 and up as they are, -1 is 255.
unfoldable pub twos : ℤ → ℕ
twos (pos n) = n
twos (negsuc n) = 255 - n

-- The entry of a byte: below 128 the same number, 255 is -1.
unfoldable pub from_twos : ℕ → ℤ
from_twos n = cond (ltb n 128) (pos n) (negsuc (255 - n))
