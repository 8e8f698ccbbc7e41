-- The definition, by the test.
use mathlib.Core.Path.{◌∙◌}
use Rattle.bg_move.specs.Steps.{leads}
use Rattle.bg_move.proofs.Choices.{equal-boards}
use Rattle.bg_move.proofs.mixed.leads.Goals as goal

pub returns-then-can_move : goal.returns-then-can_move
unfolding leads
returns-then-can_move c =
    rw (← c.can_move.ensures, c.if-can_move.true, ← c.move_single_checker.ensures) (c.eq.ensures ∙ equal-boards c.move_single_checker.result c.args.e)

pub returns-else-can_move : goal.returns-else-can_move
unfolding leads
returns-else-can_move c = rw (← c.can_move.ensures, c.if-can_move.false)
