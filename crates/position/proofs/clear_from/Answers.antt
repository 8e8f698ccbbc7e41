use borrow.Author.Rules.{rules}
use mathlib.Core.Path.{sym}
use native.Mathlib.Omega.{arith}
use mir.Syntax.{w8}
use Rattle.ints.proofs.Signed.{above-yes}
use Rattle.position.specs.Board.{entry}
use Rattle.position.proofs.Steps.{clear-yes, clear-no}
use Rattle.position.proofs.clear_from.Goals as goal

pub returns-then-b-i-gt0 : goal.returns-then-b-i-gt0
returns-then-b-i-gt0 c =
    let b = c.args.b.now in
    let i = c.loop-i.i in
    sym (clear-no b _ i (omega arith) (omega arith) (above-yes w8 (entry b i) (search rules) c.if-b-i-gt0.true))

pub returns : goal.returns
returns c =
    sym (clear-yes c.args.b.now c.args.lo (λ k l m. c.loop-i.invariant k l (omega arith)))
