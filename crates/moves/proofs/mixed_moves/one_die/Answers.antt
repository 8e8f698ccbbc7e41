-- Each die's list is the ends from its origins, and a list that passed no end is empty.
use native.Mathlib.Omega.{arith}
use Rattle.ints.specs.Bits.{bit}
use Rattle.ints.proofs.Masks.{length-those-le}
use Rattle.rules.specs.Ends.{single, only, or_else}
use Rattle.moves.proofs.Passing.{passed_is, passed-some, passed-else}
use Rattle.moves.proofs.Seconds.{Kept, single-all}
use Rattle.moves.proofs.Pairs.{small-die, big-die}
use Rattle.moves.proofs.mixed_moves.one_die.Goals as goal
use Rattle.moves.proofs.mixed_moves.one_die.Goals.{Start}

module _ (s : Start) where
  kept : Kept s.args.b.now s.args.points.x s.args.points.free
  kept = record { good = s.requires.0; masked = s.requires.2; x_lt = s.args.points.x_points; free-lt = s.args.points.free_points }

pub steps-larger-requires-clause-die_nonzero : goal.steps-larger-requires-clause-die_nonzero
steps-larger-requires-clause-die_nonzero c =
    let o = c.origins in
    let few = length-those-le 25 0 (bit o.result) in
    (omega arith, o.ensures.1, omega arith)

pub returns-then-larger-gt0 : goal.returns-then-larger-gt0
returns-then-larger-gt0 c =
    let s = (goal.at.returns-then-larger-gt0 c).Start in
    let a = s.args in
    let b = a.b.now in
    passed-some (single b a.dice.big) (or_else (single b a.dice.small) (only b))
    (passed_is (single-all (kept s) (big-die s.args.dice) c.origins.result c.origins.ensures.0) c.steps-larger.ensures) c.if-larger-gt0.true

pub steps-smaller-requires-clause-die_nonzero : goal.steps-smaller-requires-clause-die_nonzero
steps-smaller-requires-clause-die_nonzero c =
    let o = c.origins-2 in
    let few = length-those-le 25 0 (bit o.result) in
    (omega arith, o.ensures.1, omega arith)

pub returns-then-smaller-gt0 : goal.returns-then-smaller-gt0
returns-then-smaller-gt0 c =
    let s = (goal.at.returns-then-smaller-gt0 c).Start in
    let a = s.args in
    let b = a.b.now in
    passed-else (single b a.dice.big) (or_else (single b a.dice.small) (only b))
    (passed_is (single-all (kept s) (big-die s.args.dice) c.origins.result c.origins.ensures.0) c.steps-larger.ensures) c.if-larger-gt0.false
    (passed-some (single b a.dice.small) (only b)
    (passed_is (single-all (kept s) (small-die s.args.dice) c.origins-2.result c.origins-2.ensures.0) c.steps-smaller.ensures) c.if-smaller-gt0.true)

pub returns : goal.returns
returns c =
    let s = (goal.at.returns c).Start in
    let a = s.args in
    let b = a.b.now in
    passed-else (single b a.dice.big) (or_else (single b a.dice.small) (only b))
    (passed_is (single-all (kept s) (big-die s.args.dice) c.origins.result c.origins.ensures.0) c.steps-larger.ensures) c.if-larger-gt0.false
    (passed-else (single b a.dice.small) (only b)
    (passed_is (single-all (kept s) (small-die s.args.dice) c.origins-2.result c.origins-2.ensures.0) c.steps-smaller.ensures) c.if-smaller-gt0.false
    c.put.ensures)
