-- The loop's invariant: n steps are found, and those that follow are the ones from the board on.
use Rattle.bg_move.proofs.Doublets.{Found}
use Rattle.bg_move.proofs.double.new_double.Given as goal

abbrev pub invariant-loop-n : goal.invariant-loop-n
invariant-loop-n l = Found l.die l.initial.board l.e l.steps l.board l.n
