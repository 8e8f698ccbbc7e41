-- The definitions at a few values: what a reader may check by hand.
use mathlib.Core.Path.{◌≡◌, refl}
use mathlib.Core.Bool.{true, false}
use mathlib.Core.List.{[], ◌∷◌}
use lib.IntN.{negsuc}
use Rattle.ints.specs.Twos.{twos, from_twos}
use Rattle.ints.specs.Bits.{bit, digits, number, bits_of, bytes_of, merged}
use Rattle.ints.specs.Masks.{those, those_down}
use Rattle.ints.specs.Lent.{store, written}

-- -1 is 255, and 128 is -128
minus_one : twos (negsuc 0) ≡ 255
unfolding twos
minus_one = refl

least : from_twos 128 ≡ negsuc 127
unfolding from_twos
least = refl

-- 6 is 110 in binary
six : digits 4 6 ≡ false ∷ true ∷ true ∷ false ∷ []
unfolding digits
six = refl

-- bit 9 of two bytes is bit 1 of the second
ninth : bytes_of 2 (merged (bits_of (0 ∷ 0 ∷ [])) 9 (true ∷ [])) ≡ 0 ∷ 2 ∷ []
unfolding bytes_of number merged bits_of digits
ninth = refl

-- 42 is 101010 in binary
up : those 8 0 (bit 42) ≡ 1 ∷ 3 ∷ 5 ∷ []
unfolding those
up = refl

down : those_down 8 (bit 42) ≡ 5 ∷ 3 ∷ 1 ∷ []
unfolding those_down
down = refl

-- four records of two bytes, through a window over five bytes that begins at the record with number 1: two of them fit
window : written 2 (9 ∷ 9 ∷ 9 ∷ 9 ∷ 9 ∷ []) 1 0 ((10 ∷ 11 ∷ []) ∷ (20 ∷ 21 ∷ []) ∷ (30 ∷ 31 ∷ []) ∷ (40 ∷ 41 ∷ []) ∷ [])
    ≡ 20 ∷ 21 ∷ 30 ∷ 31 ∷ 9 ∷ []
unfolding written store
window = refl
