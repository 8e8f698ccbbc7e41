use borrow.Author.Rules.{rules}
use mathlib.Core.Path.{refl}
use Rattle.moves.proofs.PassingSteps.{left_less, left-none, took-lent}
use Rattle.moves.proofs.window.Window.steps.Goals as goal

pub loop-p-preserved : goal.loop-p-preserved
loop-p-preserved g c =
    let a = c.args in
    left_less g.O.Order.points a.b.now a.die a.m _ a.start c.in-Some.ensures.steps c.put_step.ensures c.loop-p.invariant

pub returns : goal.returns
returns g c =
    let a = c.args in
    let w = c.new-window.ensures in
    took-lent w.1 w.2 (left-none g.O.Order.points a.b.now a.die a.m _ a.start c.in-None.ensures.steps c.loop-p.invariant)
    (search rules) refl (search rules)
