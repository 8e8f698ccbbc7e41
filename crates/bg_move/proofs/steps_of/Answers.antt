-- A double's steps, or those of the smaller and the larger die. Dice are at most 6, and an accepted board's entries are small.
use mathlib.Core.Path.{sym, ap, ◌∙◌}
use native.Mathlib.Omega.{arith}
use Rattle.ints.proofs.Signed.{small-more}
use Rattle.dice.proofs.TwoDice.{die-range}
use Rattle.position.specs.Board.{checkers}
use Rattle.position.proofs.Boards.{accepted-small}
use Rattle.bg_move.specs.Answers.{steps_value}
use Rattle.bg_move.proofs.Recovery.{double-steps, mixed-steps}
use Rattle.bg_move.proofs.steps_of.Goals as goal

pub new_double-requires : goal.new_double-requires
new_double-requires c = small-more checkers 116 c.args.b (omega arith) (accepted-small c.requires.accepted)

pub returns-then-die1-die2 : goal.returns-then-die1-die2
returns-then-die1-die2 c =
    let a = c.args in
    c.new_double.ensures ∙ ap steps_value (sym (double-steps a.b a.die1 a.die2 a.e c.if-die1-die2.true))

pub new_mixed-requires-clause-small_bound : goal.new_mixed-requires-clause-small_bound
new_mixed-requires-clause-small_bound c =
    let p = die-range c.args.die1 c.requires.first in
    let q = die-range c.args.die2 c.requires.second in
    (omega (arith, c.min.ensures), omega (arith, c.max.ensures))

pub new_mixed-requires-clause-small : goal.new_mixed-requires-clause-small
new_mixed-requires-clause-small c = small-more checkers 122 c.args.b (omega arith) (accepted-small c.requires.accepted)

pub returns : goal.returns
returns c =
    let a = c.args in
    rw (c.min.ensures, c.max.ensures) at c.new_mixed.ensures ∙ ap steps_value (sym (mixed-steps a.b a.die1 a.die2 a.e c.if-die1-die2.false))
