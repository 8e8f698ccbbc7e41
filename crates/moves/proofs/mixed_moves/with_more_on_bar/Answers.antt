-- The rules' list is the one board in which each die that can enter has entered.
use mathlib.Core.Path.{sym, ap, ◌∙◌}
use mathlib.Core.List.{List}
use native.Mathlib.Omega.{arith}
use lib.IntN.{ℤ}
use Rattle.rules.specs.Ends.{only}
use Rattle.moves.specs.Seconds.{after_entering}
use Rattle.moves.proofs.Entering.{small-entering, mixed-full}
use Rattle.moves.proofs.Passing.{passed_is}
use Rattle.moves.proofs.Pairs.{small-die, big-die}
use Rattle.moves.proofs.mixed_moves.with_more_on_bar.Goals as goal

pub put_entered-requires : goal.put_entered-requires
put_entered-requires c =
    (omega arith, rw c.entered-c.ensures (small-entering 15 c.args.b.now c.args.dice.big c.requires.1))

pub returns : goal.returns
returns c =
    let e = c.entered-c.ensures in
    let a = c.args in
    let full =
    mixed-full a.b.now a.dice.small a.dice.big c.requires.0 (small-die a.dice) (big-die a.dice)
    (omega arith) c.requires.2 in
    passed_is (ap (λ (b : List ℤ). only (after_entering b a.dice.small)) e ∙ sym full) c.put_entered.ensures
