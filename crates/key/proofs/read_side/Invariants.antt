use Rattle.ints.specs.Bits.{bits_of}
use Rattle.key.proofs.Sides.{Reading}
use Rattle.key.proofs.read_side.Given as goal

abbrev pub invariant-loop-q : goal.invariant-loop-q
invariant-loop-q l = Reading (bits_of l.key) l.from l.counts l.at l.left l.q
