-- The byte stored has one bit more, and is a byte.
use borrow.Author.Rules.{rules}
use mathlib.Core.Path.{refl}
use Rattle.ints.proofs.Bits.{set-bit}
use Rattle.ints.proofs.set_bit.Goals as goal

pub returns : goal.returns
returns c = set-bit c.args.bytes.now c.args.k _ c.requires (search rules) refl
