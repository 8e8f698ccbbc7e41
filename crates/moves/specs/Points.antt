-- Points as masks, digit i for point i: where x has a checker, where o does not block, and from where a die can be played.
use Rattle.std.specs.Prelude.{◌≡◌, Bool, cond, ◌&&◌, List, ℕ, ◌+◌, ◌-◌, ◌*◌, ◌/◌, ◌%◌, ◌^◌, ltb, leb, eqb, ℤ}
use Rattle.std.specs.Int.Bits.{bit_and, bit_or, bit_xor}
use Rattle.std.specs.Int.Count.{count_leading_zeros}
use Rattle.ints.specs.Masks.{IsMask}
use Rattle.position.specs.Board.{xs, os}

-- p is a point of the board, no bar
abbrev pub inside : ℕ → Bool
inside p = ltb 0 p && ltb p 25

-- x has a checker on the point p
unfoldable pub holds_x : List ℤ → ℕ → Bool
holds_x b p = inside p && ltb 0 (xs b p)

-- o does not block the point p
unfoldable pub is_free : List ℤ → ℕ → Bool
is_free b p = inside p && leb (os b p) 1

-- the one point from which d bears off, as a mask: none with x outside the home board; point d; or the highest, if it is below d
unfoldable pub off_mask : ℕ → ℕ → ℕ
off_mask x d =
    cond (eqb (x / 2 ^ 7) 0)
    (cond (eqb (x / 2 ^ d) 0) (cond (eqb x 0) 0 (2 ^ (31 - count_leading_zeros 32 x))) (bit_and x (2 ^ d)))
    0

-- the points up to top from which d can be played
unfoldable pub origins_mask : ℕ → ℕ → ℕ → ℕ → ℕ
origins_mask x free d top = bit_or (bit_and x (free * 2 ^ d)) (off_mask x d) % 2 ^ (top + 1)

-- x's points after a step from p by d
unfoldable pub after_mask : List ℤ → ℕ → ℕ → ℕ → ℕ
after_mask b x p d =
    let rest = cond (eqb (xs b p) 1) (bit_xor x (2 ^ p)) x in
    cond (ltb d p) (bit_or rest (2 ^ (p - d))) rest

-- x and free are the masks of the board b, whose bar is empty of x
pub record Masked (b : List ℤ) (x free : ℕ) : Type 0 where
  pub x-mask : IsMask (holds_x b) x
  pub free-mask : IsMask (is_free b) free
  pub bar : xs b 25 ≡ 0
