use Prim.Native.Nat.{◌^◌}
use native.Mathlib.Omega.{arith}
use lib.Bits.{xor_lt}
use lib.Pow.{pow-lt}
use Rattle.ints.proofs.Digits.{shl_one}
use Rattle.moves.proofs.points.Points.without_last.Goals as goal

pub invariant_of-result : goal.invariant_of-result
invariant_of-result c =
    let a = c.args in
    let s = shl_one 32 a.p (omega arith) in
    record { x_points = rw s (xor_lt 25 a.self.x (2 ^ a.p) a.self.x_points (pow-lt {j = 25} (omega arith))); free_points = a.self.free_points }
