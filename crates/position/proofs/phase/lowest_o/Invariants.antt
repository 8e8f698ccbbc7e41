-- The loop's invariant: the lowest entry with o is the lowest from i on.
use mathlib.Core.Path.{◌≡◌}
use Prim.Native.Nat.{◌-◌}
use Rattle.position.specs.Board.{os}
use Rattle.position.specs.Phase.{lowest}
use Rattle.position.proofs.phase.lowest_o.Given as goal

abbrev pub invariant-loop-i : goal.invariant-loop-i
invariant-loop-i l = lowest (os l.b) 0 26 ≡ lowest (os l.b) l.i (26 - l.i)
