use Prim.Native.Nat.{◌-◌}
use native.Mathlib.Omega.{arith}
use lib.IntN.{pos, neg_ℤ}
use Rattle.ints.proofs.Sums.{table_is}
use Rattle.position.specs.Board.{entry, switched}
use Rattle.position.proofs.sides_switched.Goals as goal

pub returns : goal.returns
unfolding switched
returns c =
    let v = c.loop-i.invariant in
    table_is (λ k. neg_ℤ (entry c.args.b (25 - k))) 26 c.loop-i.r (pos 0) v.size (λ k l. v.at k l (omega arith))
