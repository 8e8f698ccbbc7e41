-- Each bit that is set is the first 1 that is left.
use mathlib.Core.Path.{◌≡◌}
use Prim.Native.Nat.{suc, ◌+◌, ◌-◌}
use native.Mathlib.Omega.{arith}
use native.Mathlib.Numerals.{add-one}
use Rattle.ints.specs.Bits.{merged}
use Rattle.key.proofs.set_ones.Goals as goal

pub loop-k-preserved : goal.loop-k-preserved
unfolding merged
loop-k-preserved c =
    let l = c.loop-k in
    let m : c.args.from + c.args.n - l.k ≡ suc (c.args.from + c.args.n - suc l.k) = omega arith in
    (rw (c.set_bit.ensures.0, add-one l.k) (rw m at l.invariant.0), c.set_bit.ensures.1)

pub returns : goal.returns
unfolding merged
returns c =
    let l = c.loop-k in
    let z : c.args.from + c.args.n - l.k ≡ 0 = omega arith in
    (rw z at l.invariant.0, l.invariant.1)
