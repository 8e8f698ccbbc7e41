-- The test is the rules', and the entries are small enough to step.
use mathlib.Core.Path.{sym, ◌∙◌}
use Rattle.moves.proofs.Entering.{entering-yes, entering-no}
use Rattle.moves.proofs.mixed_moves.entered.Goals as goal

pub returns-then-can_move : goal.returns-then-can_move
returns-then-can_move c =
    let a = c.args in
    c.move_single_checker.ensures ∙ entering-yes a.b a.die (sym c.can_move.ensures ∙ c.if-can_move.true)

pub returns : goal.returns
returns c =
    let a = c.args in
    entering-no a.b a.die (sym c.can_move.ensures ∙ c.if-can_move.false)
