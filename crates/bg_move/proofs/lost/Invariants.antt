-- The loop's invariant: what is lost below n is what is lost below i.
use mathlib.Core.Path.{◌≡◌}
use Rattle.bg_move.specs.Steps.{lost}
use Rattle.bg_move.proofs.lost.Given as goal

abbrev pub invariant-loop-i : goal.invariant-loop-i
invariant-loop-i l = lost l.b l.e l.n ≡ lost l.b l.e l.i
