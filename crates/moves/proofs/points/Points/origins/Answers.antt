-- The shifts fit the machine's word, and the mask of 1s keeps the points up to `top`.
use Prim.Native.Nat.{◌+◌, ◌*◌, ◌^◌}
use native.Mathlib.Omega.{arith}
use lib.Bits.{bit_and, bit_or}
use lib.Pow.{shl_exact}
use Rattle.ints.proofs.Digits.{and-ones, mod-lt-pow}
use Rattle.moves.specs.Points.{off_mask, origins_mask}
use Rattle.moves.proofs.points.Points.origins.Goals as goal

pub returns : goal.returns
unfolding origins_mask
returns c =
    let a = c.args in
    let n = bit_or (bit_and a.self.x (a.self.free * 2 ^ a.die)) (off_mask a.self.x a.die) in
    let s = shl_exact 25 a.die 32 a.self.free_points (omega arith) in
    let e = and-ones 32 n (a.top + 1) (omega arith) in
    (rw (s, c.off.ensures.0) e, rw (s, c.off.ensures.0, e) (mod-lt-pow n (a.top + 1) 25 (omega arith)))
