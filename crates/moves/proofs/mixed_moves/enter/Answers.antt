-- Where the checker enters, x's points are those before and the one that it enters on.
use mathlib.Core.Path.{sym, ◌∙◌}
use native.Mathlib.Omega.{arith}
use Rattle.ints.specs.Bits.{bit}
use Rattle.ints.proofs.Masks.{length-those-le}
use Rattle.dice.specs.Dice.{Die}
use Rattle.moves.proofs.Entering.{enter-turn, enter-no}
use Rattle.moves.proofs.Passing.{passed_is, passed_none}
use Rattle.moves.proofs.mixed_moves.enter.Goals as goal
use Rattle.moves.proofs.mixed_moves.enter.Goals.{Start}

first-die : (s : Start) → Die s.args.first
first-die s = record { low = omega arith; high = omega arith }

second-die : (s : Start) → Die s.args.second
second-die s = record { low = omega arith; high = omega arith }

pub returns-then-not-can_move : goal.returns-then-not-can_move
returns-then-not-can_move c =
    let a = c.args in
    let can = sym c.can_move.ensures ∙ c.if-not-can_move.true in
    passed_is (sym (enter-no a.b.now a.first a.second a.omit can)) (passed_none a.window.now a.start)

pub steps_after-requires-clause-p_bound : goal.steps_after-requires-clause-p_bound
steps_after-requires-clause-p_bound c =
    let r = c.without-seconds in
    let o = c.origins.ensures in
    let few = length-those-le 25 0 (bit r.result) in
    (omega arith, omega arith, omega (arith, r.ensures.1, o.1), omega arith)

pub returns : goal.returns
returns c =
    let o = c.origins in
    let s = (goal.at.returns c).Start in
    let a = s.args in
    let y = c.with-entered in
    let can = sym c.can_move.ensures ∙ c.if-not-can_move.false in
    passed_is
    (enter-turn a.b.now a.first a.second a.omit a.points.x a.points.free y.result.x y.result.free o.result c.without-seconds.result s.requires.good.0
    (first-die s) (second-die s) s.requires.good.3 s.requires.good.4 s.requires.good.2 can y.ensures y.result.x_points y.result.free_points
    o.ensures.0 c.without-seconds.ensures.0)
    c.steps_after.ensures
