-- The loop's invariant: the bytes from 25 down that are written are the image's.
use Rattle.ints.proofs.Sums.{Filled}
use Rattle.moves.proofs.Images.{byte_at}
use Rattle.moves.proofs.ends.switched_bytes.Given as goal

abbrev pub invariant-loop-i : goal.invariant-loop-i
invariant-loop-i l = Filled (byte_at l.b) 0 26 l.s l.i
