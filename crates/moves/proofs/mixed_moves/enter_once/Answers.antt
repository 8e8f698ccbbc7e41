-- With x on the bar a die's one end is the board after a checker enters.
use mathlib.Core.Path.{sym, ◌∙◌}
use Rattle.moves.proofs.Entering.{alone-larger, alone-smaller}
use Rattle.moves.proofs.Passing.{passed_is}
use Rattle.moves.proofs.mixed_moves.enter_once.Goals as goal

pub returns-then-can_move : goal.returns-then-can_move
returns-then-can_move c =
    let can = sym c.can_move.ensures ∙ c.if-can_move.true in
    passed_is (sym (alone-larger c.args.b.now c.args.dice.small c.args.dice.big c.requires.1 can)) c.put_entered.ensures

pub returns : goal.returns
returns c =
    let can = sym c.can_move.ensures ∙ c.if-can_move.false in
    passed_is (sym (alone-smaller c.args.b.now c.args.dice.small c.args.dice.big c.requires.1 can)) c.put_entered-2.ensures
