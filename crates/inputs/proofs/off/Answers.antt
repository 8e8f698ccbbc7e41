-- A small whole number is cast exactly.
use Prim.Native.Nat.{◌-◌}
use Rattle.position.specs.Board.{checkers}
use Rattle.inputs.proofs.Floats.{cast_is}
use Rattle.inputs.proofs.off.Goals as goal

pub returns : goal.returns
returns c = cast_is (checkers - c.args.n)
