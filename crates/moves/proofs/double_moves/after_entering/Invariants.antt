-- The loop's invariant: the ends from the present board, with the steps that are left, are those from the first one.
use Rattle.moves.specs.Entering.{Entering}
use Rattle.moves.proofs.double_moves.after_entering.Given as goal

abbrev pub invariant-loop-left : goal.invariant-loop-left
invariant-loop-left l = Entering l.die l.fn.b l.steps l.board l.left
