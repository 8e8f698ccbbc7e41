-- What `put_input` requires, that a value is a number.
use Rattle.std.proofs.Common.{T, subst, sym}
use Rattle.inputs.specs.Inputs.{race_inputs}
use Rattle.inputs.specs.Answers.{InputAnswer, is_number, race_input}
use Rattle.inputs.proofs.Exact.{race-input-number}
use Rattle.munchalep.proofs.Handing.{handed-input}
use Rattle.munchalep.proofs.munchalep_race_input.Goals as goal

pub put_input-requires : goal.put_input-requires
unfolding race_input race_inputs
put_input-requires c =
    subst (λ (i : InputAnswer). T (is_number i)) (sym c.input.ensures) (race-input-number c.args.board.now c.args.place)

pub returns : goal.returns
unfolding race_input race_inputs
returns c = handed-input c.put_input.ensures c.input.ensures
