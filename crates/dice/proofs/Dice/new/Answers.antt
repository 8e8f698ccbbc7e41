-- Each `return` is the case of `dice_of` that the tests before it tell.
use mathlib.Core.Path.{◌∙◌, sym}
use Rattle.dice.proofs.TwoDice.{refused-first, refused-second, double-is, mixed-is}
use Rattle.dice.proofs.Dice.new.Goals as goal

pub returns-then-not-is_die : goal.returns-then-not-is_die
returns-then-not-is_die c =
    let a = c.args in
    sym (refused-first a.die1 a.die2 (sym c.is_die.ensures ∙ c.if-not-is_die.true))

pub returns-then-not-is_die-2 : goal.returns-then-not-is_die-2
returns-then-not-is_die-2 c =
    let a = c.args in
    sym (refused-second a.die1 a.die2 (sym c.is_die-2.ensures ∙ c.if-not-is_die-2.true))

pub returns-then-die1-die2 : goal.returns-then-die1-die2
returns-then-die1-die2 c =
    let a = c.args in
    sym
    (double-is a.die1 a.die2
    (sym c.is_die.ensures ∙ c.if-not-is_die.false)
    (sym c.is_die-2.ensures ∙ c.if-not-is_die-2.false)
    c.if-die1-die2.true)

pub returns : goal.returns
returns c =
    let a = c.args in
    sym
    (mixed-is a.die1 a.die2
    (sym c.is_die.ensures ∙ c.if-not-is_die.false)
    (sym c.is_die-2.ensures ∙ c.if-not-is_die-2.false)
    c.if-die1-die2.false
    (record { big = c.max.result; small = c.min.result })
    c.max.ensures
    c.min.ensures)
