-- By the points that lost a checker.
use mathlib.Core.Path.{ap, ◌∙◌}
use Rattle.bg_move.specs.Answers.{steps_value}
use Rattle.bg_move.proofs.Choices.{mixed-none, mixed_one, mixed_two}
use Rattle.bg_move.proofs.mixed.new_mixed.Goals as goal

pub returns-in_default : goal.returns-in_default
returns-in_default c =
    let a = c.args in
    c.of.ensures ∙ ap steps_value (mixed-none a.b a.e a.small a.big c.in_default.ensures.is)

pub returns-in-None : goal.returns-in-None
returns-in-None c =
    let a = c.args in
    c.one_checker.ensures ∙ ap steps_value (mixed_one a.b a.e a.small a.big c.in-Some.first c.in-Some.ensures.is c.in-None.ensures.is)

pub returns-in-Some-lost_next : goal.returns-in-Some-lost_next
returns-in-Some-lost_next c =
    let a = c.args in
    c.two_checkers.ensures
    ∙ ap steps_value (mixed_two a.b a.e a.small a.big c.in-Some.first c.in-Some.ensures.is c.in-Some-lost_next.second c.in-Some-lost_next.ensures.is)
