use borrow.Author.Rules.{rules}
use mathlib.Core.Path.{◌∙◌}
use Prim.Native.Nat.{◌-◌}
use native.Mathlib.Omega.{arith}
use mir.Syntax.{w8}
use Rattle.ints.proofs.Signed.{held}
use Rattle.position.specs.Board.{entry}
use Rattle.moves.specs.Points.{holds_x, is_free}
use Rattle.moves.proofs.BoardMasks.{some_x, few_o, x_digit, free_digit, packed_more, packed_all}
use Rattle.moves.proofs.points.Points.of.Goals as goal

pub loop-p-preserved : goal.loop-p-preserved
loop-p-preserved c =
    let l = c.loop-p in
    let b = c.args.b.now in
    let z = held w8 (entry b (l.p - 1)) in (
      packed_more b some_x l.p l.x l.invariant.0 c.from.result (c.from.ensures ∙ x_digit z) (omega arith) (search rules),
      packed_more b few_o l.p l.free l.invariant.1 c.from-in-loop-p.result (c.from-in-loop-p.ensures ∙ free_digit z) (omega arith) (search rules),
    )

pub returns : goal.returns
unfolding holds_x is_free
returns c =
    let l = c.loop-p in
    let b = c.args.b.now in
    let x = packed_all b some_x l.p l.x l.invariant.0 (omega arith) in
    let free = packed_all b few_o l.p l.free l.invariant.1 (omega arith) in
    (x.0, free.0)
