-- The loop's invariant: the entries that were made are those that the bytes hold.
use mathlib.Core.Path.{◌≡◌}
use Prim.Native.Nat.{ℕ, ◌<◌}
use lib.IntN.{pos}
use lib.ListN.{length, get_or}
use Rattle.ints.specs.Twos.{from_twos}
use Rattle.moves.proofs.board_of.Given as goal

abbrev pub invariant-loop-i : goal.invariant-loop-i
invariant-loop-i l = (length l.board ≡ 26) × ((k : ℕ) → k < l.i → get_or l.board k (pos 0) ≡ from_twos (get_or l.bytes k 0))
