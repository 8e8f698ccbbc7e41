-- Each loop has stored the points so far, in order of place.
use Prim.Native.Nat.{◌+◌}
use Rattle.inputs.specs.Inputs.{contact_counts}
use Rattle.inputs.proofs.Own.{Begun}
use Rattle.inputs.proofs.ContactNet.rows.Given as goal

abbrev pub invariant-loop-p : goal.invariant-loop-p
invariant-loop-p l = Begun (contact_counts l.b) l.rows l.p

abbrev pub invariant-loop-p-2 : goal.invariant-loop-p-2
invariant-loop-p-2 l = Begun (contact_counts l.b) l.rows (25 + l.p)
