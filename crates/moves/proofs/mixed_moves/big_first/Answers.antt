use mathlib.Core.Path.{sym, ap}
use mathlib.Core.List.{List}
use Prim.Native.Nat.{ℕ, ◌+◌}
use native.Mathlib.Omega.{arith}
use lib.ListN.{length, length-map}
use borrow.Author.Rules.{rules}
use Rattle.ints.specs.Bits.{bit}
use Rattle.ints.specs.Masks.{those}
use Rattle.position.specs.Step.{stepped}
use Rattle.rules.proofs.Two.{can-within}
use Rattle.moves.specs.Points.{origins_mask}
use Rattle.moves.proofs.Halves.{shifted-clear, shifted-held, low-over, low-none, halves-few}
use Rattle.moves.proofs.Seconds.{Kept, origin-can}
use Rattle.moves.proofs.Passing.{turns-start, turns-end, turn-fits, turn-next, passed_is, passed_none}
use Rattle.moves.proofs.Pairs.{small-die, big-die}
use Rattle.moves.proofs.mixed_moves.big_first.Goals as goal
use Rattle.moves.proofs.mixed_moves.big_first.Goals.{Start}

-- the points of a mask in the loop's order
abbrev points : ℕ → List ℕ
points m = those 25 0 (bit m)

-- the masks, and the dice
module _ (c : Start) where
  kept : Kept c.args.b.now c.args.points.x c.args.points.free
  kept = record { good = c.requires.good.0; masked = c.requires.good.2; x_lt = c.args.points.x_points; free-lt = c.args.points.free_points }

pub returns-then-points-dice-eq0 : goal.returns-then-points-dice-eq0
returns-then-points-dice-eq0 c =
    let s = (goal.at.returns-then-points-dice-eq0 c).Start in
    let a = s.args in
    let b = a.b.now in
    let clear = shifted-clear (kept s) (a.dice.small + 1) (omega arith) c.if-points-dice-eq0.true in
    passed_is
    (sym (low-none (kept s) (small-die s.args.dice) (big-die s.args.dice) clear))
    (passed_none a.window.now a.start)

pub loop-p-init : goal.loop-p-init
loop-p-init c =
    let s = (goal.at.loop-p-init c).Start in
    let a = s.args in
    let held = shifted-held (kept s) (a.dice.small + 1) (omega arith) c.if-points-dice-eq0.false in
    turns-start (origins_mask a.points.x a.points.free a.dice.big 24) (search rules)
    (origin-can (kept s) (big-die s.args.dice) 24 (omega arith)) (low-over (kept s) (small-die s.args.dice) (big-die s.args.dice) held)

pub seconds-requires-clause-good : goal.seconds-requires-clause-good
seconds-requires-clause-good c =
    (c.requires.good.0, c.requires.good.2, c.loop-p.invariant.can c.in-Some.p c.in-Some.ensures.steps.held)

pub seconds-requires-clause-p_bound : goal.seconds-requires-clause-p_bound
seconds-requires-clause-p_bound c =
    let a = c.args in
    let f = c.in-Some.ensures.steps in
    let within = can-within a.b.now c.in-Some.p a.dice.big c.requires.good.0 (c.loop-p.invariant.can c.in-Some.p f.held) in
    (within.0, f.below)

pub steps_after-n-requires-clause-p_bound : goal.steps_after-n-requires-clause-p_bound
steps_after-n-requires-clause-p_bound c =
    let s = (goal.at.steps_after-n-requires-clause-p_bound c).Start in
    let a = s.args in
    let p = c.in-Some.p in
    let f = c.in-Some.ensures.steps in
    let few = halves-few (kept s) (small-die s.args.dice) (big-die s.args.dice) (omega arith) in
    let fits = turn-fits f c.loop-p.invariant in
    let same = length-map (points c.seconds.result) (λ q. stepped (stepped a.b.now p a.dice.big) q a.dice.small) in
    let told = ap length c.seconds.ensures.0 in
    (omega (arith, f.below), omega arith, c.seconds.ensures.1, omega arith)

pub loop-p-preserved : goal.loop-p-preserved
loop-p-preserved c = turn-next c.in-Some.ensures.steps c.loop-p.invariant (passed_is c.seconds.ensures.0 c.steps_after-n.ensures)

pub returns : goal.returns
returns c = turns-end c.loop-p.invariant c.in-None.ensures.steps
