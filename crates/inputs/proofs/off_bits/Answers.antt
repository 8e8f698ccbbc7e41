-- The bits of a small whole number.
use mathlib.Core.Path.{ap, ◌∙◌}
use Prim.Native.Nat.{◌-◌}
use native.Mathlib.Omega.{arith}
use lib.Ieee.{binary32, to_bits}
use Rattle.position.specs.Board.{checkers}
use Rattle.inputs.proofs.Floats.{whole-number, bits_is}
use Rattle.inputs.proofs.off_bits.Goals as goal

pub bits_of-requires : goal.bits_of-requires
bits_of-requires c = rw c.off.ensures (whole-number (checkers - c.args.n) (omega arith))

pub returns : goal.returns
returns c =
    let n = checkers - c.args.n in
    c.bits_of.ensures ∙ ap (to_bits binary32) c.off.ensures ∙ bits_is n
