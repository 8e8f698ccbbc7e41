use borrow.Author.Rules.{rules}
use mathlib.Core.Path.{◌≡◌, ◌∙◌}
use Prim.Native.Nat.{◌-◌}
use native.Mathlib.Omega.{arith}
use mir.Syntax.{w8}
use Rattle.ints.proofs.Signed.{held-is}
use Rattle.position.specs.Board.{entry, xs}
use Rattle.bg_move.specs.Steps.{lost}
use Rattle.bg_move.proofs.Losses.{point-some, point-none, lost-here, lost-less, lost-low}
use Rattle.bg_move.proofs.lost.Goals as goal
use Rattle.bg_move.proofs.lost.Goals.{After-pos_part, After-pos_part-in-loop-i, At-loop-i}

-- what the calls answer: x's checkers at the entry
module _ (c : After-pos_part) where
  old-x : c.pos_part.result ≡ xs c.args.b.now (c.loop-i.i - 1)
  old-x = rw (held-is w8 (entry c.args.b.now (c.loop-i.i - 1)) (search rules)) at c.pos_part.ensures

module _ (c : After-pos_part-in-loop-i) where
  abbrev at-loop : At-loop-i
  at-loop = c.before.before.before.before.before

  new-x : c.pos_part-in-loop-i.result ≡ xs at-loop.args.e.now (at-loop.loop-i.i - 1)
  new-x = rw (held-is w8 (entry at-loop.args.e.now (at-loop.loop-i.i - 1)) (search rules)) at c.pos_part-in-loop-i.ensures

pub returns-then-pos_part-clause-is : goal.returns-then-pos_part-clause-is
returns-then-pos_part-clause-is c =
    let a = c.args in
    let p = old-x (goal.at.returns-then-pos_part-clause-is c).After-pos_part in
    let q = new-x (goal.at.returns-then-pos_part-clause-is c).After-pos_part-in-loop-i in
    point-some (lost a.b.now a.e.now a.n) (c.loop-i.i - 1) (omega arith) (c.loop-i.invariant ∙ lost-here a.b.now a.e.now c.loop-i.i (omega arith) (omega arith))

pub loop-i-preserved : goal.loop-i-preserved
loop-i-preserved c =
    let a = c.args in
    let p = old-x (goal.at.loop-i-preserved c).After-pos_part in
    let q = new-x (goal.at.loop-i-preserved c).After-pos_part-in-loop-i in
    c.loop-i.invariant ∙ lost-less a.b.now a.e.now c.loop-i.i (omega arith) (omega arith)

pub returns-clause-is : goal.returns-clause-is
returns-clause-is c =
    let a = c.args in
    point-none (lost a.b.now a.e.now a.n) (c.loop-i.invariant ∙ lost-low a.b.now a.e.now c.loop-i.i (omega arith))
