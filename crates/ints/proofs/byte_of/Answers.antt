-- Two's complement is what the cast to an unsigned byte gives.
use Rattle.std.proofs.Common.{rules}
use Rattle.ints.specs.Twos.{twos}
use Rattle.ints.proofs.byte_of.Goals as goal

pub returns : goal.returns
unfolding twos
returns c = search rules
