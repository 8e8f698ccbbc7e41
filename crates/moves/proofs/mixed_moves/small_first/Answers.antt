use mathlib.Core.Path.{◌≡◌, ap}
use mathlib.Core.List.{List}
use Prim.Native.Nat.{ℕ, ◌+◌, ◌^◌, ◌<◌}
use native.Mathlib.Omega.{arith}
use lib.ListN.{length, length-map}
use borrow.Author.Rules.{rules}
use Rattle.ints.specs.Bits.{bit}
use Rattle.ints.specs.Masks.{those_down}
use Rattle.position.specs.Step.{stepped}
use Rattle.dice.specs.Dice.{Die}
use Rattle.moves.specs.Bytes.{steps}
use Rattle.moves.specs.Points.{origins_mask}
use Rattle.moves.proofs.Halves.{top_from, top-over, top-turn, halves-few}
use Rattle.moves.proofs.Seconds.{Kept, origin-can}
use Rattle.moves.proofs.Passing.{turns-start, turns-end, turn-fits, turn-next, passed_is}
use Rattle.moves.proofs.Pairs.{small-die, big-die}
use Rattle.moves.proofs.mixed_moves.small_first.Goals as goal
use Rattle.moves.proofs.mixed_moves.small_first.Goals.{After-origins-seconds, Start}

-- the points of a mask in the loop's order
abbrev points : ℕ → List ℕ
points m = those_down 25 (bit m)

-- the masks, and the dice
module _ (c : Start) where
  kept : Kept c.args.b.now c.args.points.x c.args.points.free
  kept = record { good = c.requires.0; masked = c.requires.2; x_lt = c.args.points.x_points; free-lt = c.args.points.free_points }

pub loop-p-init : goal.loop-p-init
loop-p-init c =
    let s = (goal.at.loop-p-init c).Start in
    let a = s.args in
    turns-start (origins_mask a.points.x a.points.free a.dice.small 24) (search rules)
    (origin-can (kept s) (small-die s.args.dice) 24 (omega arith)) (top-over (kept s) (small-die s.args.dice) (big-die s.args.dice))

-- the second die's ends after a step from the point
module _ (c : After-origins-seconds) (k : Kept c.args.b.now c.args.points.x c.args.points.free) (s : Die c.args.dice.small) (l : Die c.args.dice.big) where
  turn : steps (stepped c.args.b.now c.in-Some.p c.args.dice.small) c.args.dice.big (points c.origins-seconds.result)
      ≡ top_from c.args.b.now c.args.dice.small c.args.dice.big c.in-Some.p
  turn =
      let f = c.in-Some.ensures.steps in
      let y = c.after in
      top-turn k s l c.in-Some.p y.result.x y.result.free c.origins-seconds.result f.below (c.loop-p.invariant.can c.in-Some.p f.held)
      y.ensures y.result.x_points c.origins-seconds.ensures.0

  few : c.loop-p.n + length (points c.origins-seconds.result) < 2 ^ 32
  few =
      let a = c.args in
      let m = points c.origins-seconds.result in
      omega (
        arith,
        halves-few k s l (omega arith),
        turn-fits c.in-Some.ensures.steps c.loop-p.invariant,
        length-map m (λ q. stepped (stepped a.b.now c.in-Some.p a.dice.small) q a.dice.big),
        ap length turn,
      )

pub loop-p-preserved : goal.loop-p-preserved
loop-p-preserved c =
    let at = goal.at.loop-p-preserved c in
    let s = at.Start in
    turn-next c.in-Some.ensures.steps c.loop-p.invariant
    (passed_is (turn at.After-origins-seconds (kept s) (small-die s.args.dice) (big-die s.args.dice)) c.steps_after-n.ensures)

pub steps_after-n-requires-clause-p_bound : goal.steps_after-n-requires-clause-p_bound
steps_after-n-requires-clause-p_bound c =
    let at = goal.at.steps_after-n-requires-clause-p_bound c in
    let s = at.Start in
    let f = c.in-Some.ensures.steps in
    (omega (arith, f.below), omega arith, c.origins-seconds.ensures.1, few at.After-origins-seconds (kept s) (small-die s.args.dice) (big-die s.args.dice))

pub returns : goal.returns
returns c = turns-end c.loop-p.invariant c.in-None.ensures.steps
