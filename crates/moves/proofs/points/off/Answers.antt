-- The code's tests are the definition's, in their order.
use mathlib.Core.Path.{sym}
use Prim.Native.Nat.{◌-◌, ◌*◌, ◌%◌, ◌^◌}
use native.Mathlib.Omega.{arith}
use borrow.Author.Tests.{eq-eqb, ne_eqb}
use lib.Bits.{and_le_l}
use lib.Count.{count_leading_zeros}
use lib.Dec.{lit<}
use Rattle.ints.proofs.Digits.{shl_one}
use Rattle.ints.proofs.Masks.{leading}
use Rattle.moves.specs.Points.{off_mask}
use Rattle.moves.proofs.points.off.Goals as goal

pub returns-then-x-ne0 : goal.returns-then-x-ne0
unfolding off_mask
returns-then-x-ne0 c = (sym (rw (ne_eqb _ 0 c.if-x-ne0.true)), lit< tt)

pub returns-then-x-die-ne0 : goal.returns-then-x-die-ne0
unfolding off_mask
returns-then-x-die-ne0 c =
    let a = c.args in
    let s = shl_one 32 a.die (omega arith) in (
      rw s (sym (rw (eq-eqb _ 0 c.if-x-ne0.false, ne_eqb _ 0 c.if-x-die-ne0.true))),
      omega (arith, and_le_l a.x ((1 * 2 ^ a.die) % 4294967296)),
    )

pub returns-then-x-eq0 : goal.returns-then-x-eq0
unfolding off_mask
returns-then-x-eq0 c =
    (sym (rw (eq-eqb _ 0 c.if-x-ne0.false, eq-eqb _ 0 c.if-x-die-ne0.false, eq-eqb _ 0 c.if-x-eq0.true)), lit< tt)

pub returns : goal.returns
unfolding off_mask
returns c =
    let x = c.args.x in
    let t = leading 32 25 x (omega arith) c.if-x-eq0.false (omega arith) in
    let s = shl_one 32 (31 - count_leading_zeros 32 x) (omega arith) in (
      rw s (sym (rw (eq-eqb _ 0 c.if-x-ne0.false, eq-eqb _ 0 c.if-x-die-ne0.false, ne_eqb _ 0 c.if-x-eq0.false))),
      rw s (omega (arith, t.power)),
    )
