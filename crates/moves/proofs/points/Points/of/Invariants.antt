-- The loop's invariant: each mask has the points from p on.
use Rattle.moves.proofs.BoardMasks.{some_x, few_o, Packed}
use Rattle.moves.proofs.points.Points.of.Given as goal

abbrev pub invariant-loop-p : goal.invariant-loop-p
invariant-loop-p l = Packed l.b some_x l.p l.x × Packed l.b few_o l.p l.free
