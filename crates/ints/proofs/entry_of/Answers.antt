-- Two's complement is what the cast from an unsigned byte reads.
use Rattle.std.proofs.Common.{rules}
use Rattle.ints.specs.Twos.{from_twos}
use Rattle.ints.proofs.entry_of.Goals as goal

pub returns : goal.returns
unfolding from_twos
returns c = search rules
