-- Run j is a point of o's below 25, and one of x's from 25 on.
use mathlib.Core.Path.{sym, ◌∙◌}
use Prim.Native.Nat.{◌-◌}
use native.Mathlib.Omega.{arith}
use mir.Syntax.{w8}
use Rattle.ints.proofs.Signed.{held-is}
use Rattle.position.specs.Board.{entry}
use Rattle.key.proofs.Counts.{count-o, count-x}
use Rattle.key.proofs.count.Goals as goal

pub returns-then-j-lt25 : goal.returns-then-j-lt25
returns-then-j-lt25 c =
    let b = c.args.b.now in
    let j = c.args.j in
    (rw (held-is w8 (entry b (24 - j)) (omega arith)) at c.neg_part.ensures) ∙ sym (count-o b j (omega arith))

pub returns : goal.returns
returns c =
    let b = c.args.b.now in
    let j = c.args.j in
    (rw (held-is w8 (entry b (j - 24)) (omega arith)) at c.pos_part.ensures) ∙ sym (count-x b j (omega arith) (omega arith))
