-- A double's ends, or those of the smaller and the larger die.
use mathlib.Core.Path.{sym, ap₂, ◌∙◌}
use native.Mathlib.Omega.{arith}
use borrow.Author.Rules.{rules}
use Rattle.dice.proofs.TwoDice.{die-range}
use Rattle.position.proofs.Boards.{accepted-small}
use Rattle.position.proofs.Steps.{accepted-good}
use Rattle.rules.specs.Ends.{mixed}
use Rattle.rules.proofs.Dice.{double-list, mixed-list}
use Rattle.moves.proofs.Entries.{took-passed}
use Rattle.moves.proofs.fill.Goals as goal

pub double_ends-requires : goal.double_ends-requires
double_ends-requires c =
    let p = c.requires in
    let r = die-range c.args.die1 p.first in
    (accepted-good p.accepted, accepted-small p.accepted, omega arith, omega arith)

pub returns-then-die1-die2 : goal.returns-then-die1-die2
returns-then-die1-die2 c =
    let a = c.args in
    took-passed c.new-window.ensures.1 c.new-window.ensures.2 c.double_ends.ensures (sym (double-list a.die1 a.die2 a.b.now c.if-die1-die2.true)) (search rules)

pub mixed_ends-requires : goal.mixed_ends-requires
mixed_ends-requires c = let p = c.requires in (accepted-good p.accepted, accepted-small p.accepted)

pub invariant_of-dice : goal.invariant_of-dice
invariant_of-dice c =
    let p = c.requires in
    let r = die-range c.args.die1 p.first in
    let t = die-range c.args.die2 p.second in
    let n = c.if-die1-die2.false in
    record { positive = omega arith; ascending = omega arith; at_most_6 = omega arith }

pub returns : goal.returns
returns c =
    let a = c.args in
    took-passed c.new-window.ensures.1 c.new-window.ensures.2 c.mixed_ends.ensures
    (ap₂ (mixed a.b.now) c.min.ensures c.max.ensures ∙ sym (mixed-list a.die1 a.die2 a.b.now c.if-die1-die2.false)) (search rules)
