-- The empty board is accepted.
use Rattle.std.proofs.Common.{refl}
use native.Mathlib.Omega.{arith}
use Rattle.ints.specs.Sums.{sum_to}
use Rattle.position.specs.Board.{checkers, refusal_of}
use Rattle.position.proofs.Boards.{unrefused-accepted}
use Rattle.inputs.proofs.tests.a_net_of_no_points_has_the_row_of_none.Goals as goal

pub row_at-requires : goal.row_at-requires
unfolding refusal_of sum_to
row_at-requires g c = (unrefused-accepted checkers _ refl refl, omega arith)
