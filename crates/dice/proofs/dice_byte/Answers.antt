-- The roll and the byte are one answer, and a roll's dice are small enough for a byte.
use mathlib.Core.Path.{◌∙◌, ap}
use native.Mathlib.Omega.{arith}
use Rattle.std.proofs.Common.{rules, Ok}
use Rattle.ints.specs.Answer.{value}
use Rattle.dice.specs.Dice.{dice_answer}
use Rattle.dice.proofs.TwoDice.{told}
use Rattle.dice.proofs.Bytes.{told-answer}
use Rattle.dice.proofs.dice_byte.Goals as goal

pub packed-requires : goal.packed-requires
packed-requires c =
    let tells = told c.args.die1 c.args.die2 c.new.ensures (c.in_ok-die.was ∙ ap Ok c.in-Double.is) in
    omega arith

pub packed-requires-in-Mixed : goal.packed-requires-in-Mixed
packed-requires-in-Mixed c =
    let tells = told c.args.die1 c.args.die2 c.new.ensures (c.in_ok-die.was ∙ ap Ok c.in-Mixed.is) in
    omega arith

pub returns-in_err-die : goal.returns-in_err-die
unfolding dice_answer
returns-in_err-die c =
    let e = told-answer c.args.die1 c.args.die2 c.new.ensures c.in_err-die.was in
    search rules

pub returns-in-Double : goal.returns-in-Double
unfolding dice_answer
returns-in-Double c = ap value c.packed.ensures ∙ told-answer c.args.die1 c.args.die2 c.new.ensures (c.in_ok-die.was ∙ ap Ok c.in-Double.is)

pub returns-in-Mixed : goal.returns-in-Mixed
unfolding dice_answer
returns-in-Mixed c = ap value c.packed-in-Mixed.ensures ∙ told-answer c.args.die1 c.args.die2 c.new.ensures (c.in_ok-die.was ∙ ap Ok c.in-Mixed.is)
