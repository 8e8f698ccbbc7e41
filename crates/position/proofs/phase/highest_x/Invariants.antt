-- The loop's invariant: the highest entry with x is the highest below i.
use mathlib.Core.Path.{◌≡◌}
use Rattle.position.specs.Board.{xs}
use Rattle.position.specs.Phase.{highest}
use Rattle.position.proofs.phase.highest_x.Given as goal

abbrev pub invariant-loop-i : goal.invariant-loop-i
invariant-loop-i l = highest (xs l.b) 26 ≡ highest (xs l.b) l.i
