-- What `put_input` requires, that a value is a number.
use Rattle.std.proofs.Common.{T, subst, sym}
use Rattle.inputs.specs.Inputs.{contact_inputs}
use Rattle.inputs.specs.Answers.{InputAnswer, is_number, contact_input}
use Rattle.inputs.proofs.Exact.{contact-input-number}
use Rattle.munchalep.proofs.Handing.{handed-input}
use Rattle.munchalep.proofs.munchalep_contact_input.Goals as goal

pub put_input-requires : goal.put_input-requires
unfolding contact_input contact_inputs
put_input-requires c =
    subst (λ (i : InputAnswer). T (is_number i)) (sym c.input.ensures) (contact-input-number c.args.board.now c.args.place)

pub returns : goal.returns
unfolding contact_input contact_inputs
returns c = handed-input c.put_input.ensures c.input.ensures
