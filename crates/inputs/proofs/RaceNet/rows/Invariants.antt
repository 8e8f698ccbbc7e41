-- Each loop has stored the points so far, in order of place.
use Prim.Native.Nat.{◌+◌, ◌-◌}
use Rattle.inputs.specs.Inputs.{race_counts}
use Rattle.inputs.proofs.Own.{Begun}
use Rattle.inputs.proofs.RaceNet.rows.Given as goal

abbrev pub invariant-loop-p : goal.invariant-loop-p
invariant-loop-p l = Begun (race_counts l.b) l.rows (l.p - 1)

abbrev pub invariant-loop-p-2 : goal.invariant-loop-p-2
invariant-loop-p-2 l = Begun (race_counts l.b) l.rows (21 + l.p)
