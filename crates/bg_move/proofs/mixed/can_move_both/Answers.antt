-- The definition, by the test; a step leaves the entries small enough for a second.
use Rattle.position.proofs.StepCode.{small-stepped}
use Rattle.bg_move.specs.Steps.{leads_both}
use Rattle.bg_move.proofs.mixed.can_move_both.Goals as goal

pub leads-requires-clause-small : goal.leads-requires-clause-small
leads-requires-clause-small c =
    let a = c.args in
    rw c.move_single_checker.ensures (small-stepped 122 a.b a.from1 a.die1 c.requires.small)

pub returns-then-can_move : goal.returns-then-can_move
unfolding leads_both
returns-then-can_move c = rw (← c.can_move.ensures, c.if-can_move.true, ← c.move_single_checker.ensures) c.leads.ensures

pub returns-else-can_move : goal.returns-else-can_move
unfolding leads_both
returns-else-can_move c = rw (← c.can_move.ensures, c.if-can_move.false)
