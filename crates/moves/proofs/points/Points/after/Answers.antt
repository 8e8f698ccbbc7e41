-- It takes the digit of p away where the last checker leaves, and sets that of the point reached.
use borrow.Author.Rules.{rules}
use native.Mathlib.Omega.{arith}
use borrow.Author.Tests.{lt-ltb, le-ltb}
use mathlib.Core.Path.{◌∙◌}
use mir.Syntax.{w8}
use Rattle.ints.proofs.Signed.{held-is}
use Rattle.position.specs.Board.{entry}
use Rattle.moves.specs.Points.{after_mask}
use Rattle.moves.proofs.points.Points.after.Goals as goal

pub returns-then-die-p : goal.returns-then-die-p
unfolding after_mask
returns-then-die-p c =
    let a = c.args in
    let z = held-is w8 (entry a.b.now a.p) (search rules) in
    let e = c.without_last-rest.ensures in
    let w = c.with.ensures in
    (rw (w.0, e.0, z, lt-ltb a.die a.p c.if-die-p.true), w.1 ∙ e.1)

pub returns : goal.returns
unfolding after_mask
returns c =
    let a = c.args in
    let z = held-is w8 (entry a.b.now a.p) (search rules) in
    let e = c.without_last-rest.ensures in
    (rw (e.0, z, le-ltb a.die a.p (omega arith)), e.1)
