-- A byte as a float is a number, and has bits.
use Rattle.std.proofs.Common.{arith}
use Rattle.inputs.proofs.Floats.{cast_is, whole-number}
use Rattle.replay_inputs.proofs.bits.Goals as goal

pub float_to_bits-result : goal.float_to_bits-result
float_to_bits-result c = rw (c.from.ensures, cast_is c.args.byte) (whole-number c.args.byte (omega arith))
