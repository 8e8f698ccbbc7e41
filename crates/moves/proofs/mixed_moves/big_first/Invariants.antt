-- Where no x stands above the smaller die there is nothing to pass. The loop's invariant: what is still to be passed, from here, is the
-- ends that begin with a step from the points that are left; each turn passes those of the lowest.
use mathlib.Core.List.{List}
use Prim.Native.Nat.{ℕ}
use Rattle.ints.specs.Bits.{bit}
use Rattle.ints.specs.Masks.{those}
use Rattle.rules.specs.Omitted.{low_once}
use Rattle.moves.proofs.Halves.{low_from}
use Rattle.moves.proofs.Passing.{Turns}
use Rattle.moves.proofs.mixed_moves.big_first.Given as goal

-- the points of a mask in the loop's order
abbrev pub points : ℕ → List ℕ
points m = those 25 0 (bit m)

abbrev pub invariant-loop-p : goal.invariant-loop-p
invariant-loop-p l =
    Turns l.b l.dice.big (low_from l.b l.dice.big l.dice.small) points l.p-iterator.rest l.window l.n (low_once l.b l.dice.big l.dice.small) l.initial.window l.start
