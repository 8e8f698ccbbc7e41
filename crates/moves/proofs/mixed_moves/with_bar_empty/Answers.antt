-- The two halves are the list of both dice, and where they pass no end it is empty.
use mathlib.Core.Path.{sym}
use native.Mathlib.Omega.{arith}
use Rattle.rules.specs.Ends.{both, mixed}
use Rattle.rules.proofs.Repeats.{both-free}
use Rattle.moves.specs.Points.{Masked}
use Rattle.moves.specs.Seconds.{one_die}
use Rattle.moves.proofs.Halves.{halves-few}
use Rattle.moves.proofs.Passing.{passed_is, passed-append, passed-some, passed-else}
use Rattle.moves.proofs.Pairs.{small-die, big-die}
use Rattle.moves.proofs.mixed_moves.with_bar_empty.Goals as goal
use Rattle.moves.proofs.mixed_moves.with_bar_empty.Goals.{Start}

pub big_first-both-requires-clause-start_bound : goal.big_first-both-requires-clause-start_bound
big_first-both-requires-clause-start_bound c =
    let s = (goal.at.big_first-both-requires-clause-start_bound c).Start in
    let p = c.of-points in
    let masked : Masked s.args.b.now p.result.x p.result.free =
    record { x-mask = p.ensures.0; free-mask = p.ensures.1; bar = s.requires.2 } in
    let few =
    halves-few (record { good = s.requires.0; masked = masked; x_lt = p.result.x_points; free-lt = p.result.free_points }) (small-die s.args.dice) (big-die s.args.dice)
    (omega arith) in omega (arith, c.small_first-half.ensures.passed.number)

pub returns-then-both-gt0 : goal.returns-then-both-gt0
unfolding mixed
returns-then-both-gt0 c =
    let s = (goal.at.returns-then-both-gt0 c).Start in
    let a = s.args in
    let b = a.b.now in
    passed-some (both b a.dice.small a.dice.big) (one_die b a.dice.small a.dice.big)
    (passed_is (sym (both-free b a.dice.small a.dice.big s.requires.0 (small-die s.args.dice) (big-die s.args.dice) (omega arith) s.requires.2))
    (passed-append c.small_first-half.ensures c.big_first-both.ensures)) c.if-both-gt0.true

pub returns : goal.returns
unfolding mixed
returns c =
    let s = (goal.at.returns c).Start in
    let a = s.args in
    let b = a.b.now in
    passed-else (both b a.dice.small a.dice.big) (one_die b a.dice.small a.dice.big)
    (passed_is (sym (both-free b a.dice.small a.dice.big s.requires.0 (small-die s.args.dice) (big-die s.args.dice) (omega arith) s.requires.2))
    (passed-append c.small_first-half.ensures c.big_first-both.ensures)) c.if-both-gt0.false c.one_die.ensures
