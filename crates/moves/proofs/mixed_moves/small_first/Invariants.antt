-- The loop's invariant: what is still to be passed, from here, is the ends that begin with a step from a point the points that are
-- left; each turn passes those of the highest.
use mathlib.Core.List.{List}
use Prim.Native.Nat.{ℕ}
use Rattle.ints.specs.Bits.{bit}
use Rattle.ints.specs.Masks.{those_down}
use Rattle.rules.specs.Ends.{from_top}
use Rattle.moves.proofs.Halves.{top_from}
use Rattle.moves.proofs.Passing.{Turns}
use Rattle.moves.proofs.mixed_moves.small_first.Given as goal

-- the points of a mask in the loop's order
abbrev pub points : ℕ → List ℕ
points m = those_down 25 (bit m)

abbrev pub invariant-loop-p : goal.invariant-loop-p
invariant-loop-p l =
    Turns l.b l.dice.small (top_from l.b l.dice.small l.dice.big) points l.p-iterator.rest l.window l.n (from_top l.b l.dice.small l.dice.big) l.initial.window 0
