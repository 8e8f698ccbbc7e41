-- The loop's invariant: the entries of the bytes that were passed are the board's.
use mathlib.Core.Path.{◌≡◌}
use Prim.Native.Nat.{ℕ, ◌<◌}
use lib.IntN.{pos}
use lib.ListN.{get_or}
use Rattle.ints.specs.Twos.{from_twos}
use Rattle.end_number.proofs.holds.Given as goal

abbrev pub invariant-loop-i : goal.invariant-loop-i
invariant-loop-i l = (k : ℕ) → k < l.i → from_twos (get_or l.slot k 0) ≡ get_or l.board k (pos 0)
