use Rattle.std.proofs.Common.{ap, ◌∙◌}
use Rattle.ints.specs.Answer.{packed}
use Rattle.inputs.specs.Inputs.{race_inputs}
use Rattle.inputs.specs.Answers.{race_answer, race_lent}
use Rattle.munchalep.proofs.Handing.{filled-number}
use Rattle.munchalep.proofs.munchalep_race_inputs.Goals as goal

pub returns : goal.returns
unfolding race_answer race_lent race_inputs
returns c = (c.refusal_number.ensures ∙ filled-number c.fill.result ∙ ap packed c.fill.ensures.0, c.fill.ensures.1)
