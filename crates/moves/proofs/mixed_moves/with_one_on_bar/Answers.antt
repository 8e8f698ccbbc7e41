-- What enters with each die first is the list of both dice, and where that passes no end it is empty.
use native.Mathlib.Omega.{arith}
use Rattle.rules.specs.Ends.{both, mixed}
use Rattle.moves.specs.Seconds.{one_die}
use Rattle.moves.proofs.Entering.{both-but, enter-few}
use Rattle.moves.proofs.Passing.{passed_is, passed-append, passed-some, passed-else}
use Rattle.moves.proofs.Pairs.{small-die, big-die}
use Rattle.moves.proofs.mixed_moves.with_one_on_bar.Goals as goal
use Rattle.moves.proofs.mixed_moves.with_one_on_bar.Goals.{Start}

pub enter-both-requires-clause-x_bound : goal.enter-both-requires-clause-x_bound
enter-both-requires-clause-x_bound c =
    let s = (goal.at.enter-both-requires-clause-x_bound c).Start in
    let a = s.args in
    let few = enter-few a.b.now a.dice.small a.dice.big s.requires.0 (small-die s.args.dice) (big-die s.args.dice) (omega arith) s.requires.2 in ((
      omega arith,
      omega arith,
      omega arith,
      omega arith,
      c.omitted.ensures.0,
      omega (arith, c.enter-larger.ensures.passed.number),
    ))

pub returns-then-both-gt0 : goal.returns-then-both-gt0
unfolding mixed
returns-then-both-gt0 c =
    let s = (goal.at.returns-then-both-gt0 c).Start in
    let a = s.args in
    let b = a.b.now in
    passed-some (both b a.dice.small a.dice.big) (one_die b a.dice.small a.dice.big)
    (passed_is
    (both-but b a.dice.small a.dice.big s.requires.0 (small-die s.args.dice) (big-die s.args.dice) (omega arith) s.requires.2 c.omitted.result c.omitted.ensures.1)
    (passed-append c.enter-larger.ensures c.enter-both.ensures)) c.if-both-gt0.true

pub returns : goal.returns
unfolding mixed
returns c =
    let s = (goal.at.returns c).Start in
    let a = s.args in
    let b = a.b.now in
    passed-else (both b a.dice.small a.dice.big) (one_die b a.dice.small a.dice.big)
    (passed_is
    (both-but b a.dice.small a.dice.big s.requires.0 (small-die s.args.dice) (big-die s.args.dice) (omega arith) s.requires.2 c.omitted.result c.omitted.ensures.1)
    (passed-append c.enter-larger.ensures c.enter-both.ensures)) c.if-both-gt0.false c.enter_once.ensures
