-- The digit read by shifting and masking is that digit of byte k / 8.
use Rattle.ints.proofs.Bits.{read-bit}
use Rattle.ints.proofs.bit.Goals as goal

pub returns : goal.returns
returns c = read-bit c.args.bytes.now c.args.k
