-- The loop's invariant: the entries of the new board from 25 down that are written are minus the old board's.
use Prim.Native.Nat.{◌-◌}
use lib.IntN.{pos, neg_ℤ}
use Rattle.ints.proofs.Sums.{Filled}
use Rattle.position.specs.Board.{entry}
use Rattle.position.proofs.sides_switched.Given as goal

abbrev pub invariant-loop-i : goal.invariant-loop-i
invariant-loop-i l = Filled (λ k. neg_ℤ (entry l.b (25 - k))) (pos 0) 26 l.r l.i
