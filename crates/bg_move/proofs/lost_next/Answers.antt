use borrow.Author.Rules.{rules}
use mathlib.Core.Path.{◌≡◌, sym, ap, ◌∙◌}
use native.Mathlib.Omega.{arith}
use lib.IntN.{ℤ}
use mir.Syntax.{w8}
use Rattle.ints.specs.Signed.{pos_part}
use Rattle.ints.proofs.Signed.{held-is}
use Rattle.position.specs.Board.{entry, xs}
use Rattle.bg_move.specs.Steps.{lost_next, point}
use Rattle.bg_move.proofs.Losses.{point-some, next-same, next-below}
use Rattle.bg_move.proofs.lost_next.Goals as goal
use Rattle.bg_move.proofs.lost_next.Goals.{After-pos_part, After-pos_part-2}

-- what the calls answer: x's checkers at the entry
module _ (c : After-pos_part) where
  old-x : c.pos_part.result ≡ xs c.args.b.now c.args.first
  old-x = rw (held-is w8 (entry c.args.b.now c.args.first) (search rules)) at c.pos_part.ensures

module _ (c : After-pos_part-2) where
  abbrev read : ℤ
  read = entry c.args.e.now c.args.first

  new-x : c.pos_part-2.result ≡ pos_part read
  new-x = rw (held-is w8 read (search rules)) at c.pos_part-2.ensures

pub returns-then-pos_part-clause-is : goal.returns-then-pos_part-clause-is
returns-then-pos_part-clause-is c =
    let a = c.args in
    let p = old-x (goal.at.returns-then-pos_part-clause-is c).After-pos_part in
    let q = new-x (goal.at.returns-then-pos_part-clause-is c).After-pos_part-2 in
    point-some (lost_next a.b.now a.e.now a.first) a.first c.requires.0 (next-same a.b.now a.e.now a.first (omega arith))

pub returns-clause-is : goal.returns-clause-is
returns-clause-is c =
    let a = c.args in
    let p = old-x (goal.at.returns-clause-is c).After-pos_part in
    let q = new-x (goal.at.returns-clause-is c).After-pos_part-2 in
    let l = c.if-pos_part.false in
    c.lost.ensures.is ∙ ap point (sym (next-below a.b.now a.e.now a.first (omega arith)))
