-- 15 and one's own checkers, or 15 less the other side's.
use native.Mathlib.Omega.{arith}
use Rattle.ints.proofs.Signed.{apart}
use Rattle.inputs.proofs.Own.{row_is}
use Rattle.inputs.proofs.row.Goals as goal

pub returns : goal.returns
returns c =
    let a = apart c.args.own in
    let r = row_is c.args.own c.ranges.own c.requires.0 c.requires.1 in
    record { below = omega arith; is = omega arith }
