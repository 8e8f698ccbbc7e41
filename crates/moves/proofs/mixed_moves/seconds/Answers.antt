-- The origins below p on the board after the first step, without the omitted one.
use native.Mathlib.Omega.{arith}
use Rattle.moves.proofs.Seconds.{Kept}
use Rattle.moves.proofs.Halves.{low_turn}
use Rattle.moves.proofs.Pairs.{small-die, big-die}
use Rattle.moves.proofs.mixed_moves.seconds.Goals as goal

pub returns : goal.returns
returns c =
    let a = c.args in
    let w = c.omitted in
    let y = c.after in
    let o = c.origins-below in
    let small = small-die a.dice in
    let big = big-die a.dice in
    let kept : Kept a.b.now a.points.x a.points.free = record { good = c.requires.good.0; masked = c.requires.good.1; x_lt = a.points.x_points; free-lt = a.points.free_points } in (
      low_turn kept small big a.p y.result.x y.result.free o.result w.result c.without.result (omega arith) c.requires.good.2 y.ensures y.result.x_points o.ensures.0
          w.ensures.1 c.without.ensures.0,
      omega (arith, c.without.ensures.1, o.ensures.1),
    )
