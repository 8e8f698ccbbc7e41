-- Ends of which none falls in the window are only counted, and the others passed from the board after the first step.
use Rattle.position.specs.Step.{stepped}
use Rattle.position.proofs.StepCode.{small-stepped}
use Rattle.moves.proofs.PassingSteps.{passed_over}
use Rattle.moves.proofs.window.Window.steps_after.Goals as goal

pub returns-then-outside : goal.returns-then-outside
returns-then-outside g c =
    let a = c.args in
    passed_over (stepped a.b.now a.p a.first) a.die (g.O.Order.points a.m) a.self.now a.start _ (g.met.O.Order.all a.m c.requires.p_bound.2)
    (c.outside.ensures c.if-outside.true)

pub steps-requires-clause-small : goal.steps-requires-clause-small
steps-requires-clause-small g c =
    let m = c.move_single_checker-c in (rw m.ensures (small-stepped 118 c.args.b.now c.args.p c.args.first c.requires.small))
