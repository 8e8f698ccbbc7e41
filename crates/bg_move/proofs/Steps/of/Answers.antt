-- The steps are copied to the first places, and zeros stand in the others.
use mathlib.Core.Path.{ap, ◌∙◌}
use mathlib.Core.List.{List, [], ◌++◌}
use lib.ListN.{length, drop}
use Rattle.bg_move.specs.declared.Step.{Step}
use Rattle.bg_move.specs.Answers.{places, steps_value}
use Rattle.bg_move.proofs.Places.{placed}
use Rattle.bg_move.proofs.Steps.of.Goals as goal

pub returns : goal.returns
unfolding steps_value
returns c =
    let ts = c.args.steps.now in
    let h = ap (λ (l : List Step). l ++ drop (length ts) (places [])) c.copy_from_slice.ensures.after ∙ placed ts c.requires in
    λ k. record { count = length ts; steps = h k }
