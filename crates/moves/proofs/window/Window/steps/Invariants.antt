-- The loop's invariant is what is left to be passed; a turn passes the first point's end.
use Rattle.moves.proofs.PassingSteps.{Left}
use Rattle.moves.proofs.window.Window.steps.Given as goal

abbrev pub invariant-loop-p : goal.invariant-loop-p
invariant-loop-p g l = Left g.O.Order.points l.b l.die l.m l.initial.window l.start l.window l.n l.p-iterator.rest
