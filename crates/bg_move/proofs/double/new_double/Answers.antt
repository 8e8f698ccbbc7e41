use mathlib.Core.Path.{◌≡◌}
use native.Mathlib.Omega.{arith}
use Rattle.bg_move.proofs.Doublets.{nothing-found, more-found, none_left, four-found}
use Rattle.bg_move.proofs.double.new_double.Goals as goal

pub loop-n-init : goal.loop-n-init
loop-n-init c = nothing-found c.args.die c.args.b c.args.e c.requires

pub returns-in_default : goal.returns-in_default
returns-in_default c =
    let a = c.args in
    none_left a.die a.b a.e c.loop-n.steps c.loop-n.board c.loop-n.n c.loop-n.invariant c.in_default.ensures.is

pub loop-n-preserved : goal.loop-n-preserved
loop-n-preserved c =
    let a = c.args in
    more-found a.die a.b a.e c.loop-n.steps c.loop-n.board c.loop-n.n c.loop-n.invariant (omega arith)
    c.in-Some.from c.in-Some.ensures.is c.by.result c.by.ensures c.move_single_checker-board.result c.move_single_checker-board.ensures

pub returns : goal.returns
returns c =
    let a = c.args in
    let n : c.loop-n.n ≡ 4 = omega arith in
    rw n at (four-found a.die a.b a.e c.loop-n.steps c.loop-n.board c.loop-n.n c.loop-n.invariant n)
