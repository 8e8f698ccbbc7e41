use borrow.Author.Rules.{rules}
use mathlib.Core.Path.{◌≡◌, sym, ◌∙◌}
use native.Mathlib.Omega.{arith}
use mir.Syntax.{w8}
use Rattle.ints.proofs.Signed.{below-yes, below-no}
use Rattle.position.specs.Board.{entry, os}
use Rattle.position.specs.Phase.{lowest}
use Rattle.position.proofs.Phases.{lowest-here, lowest-more}
use Rattle.position.proofs.phase.lowest_o.Goals as goal

pub returns-then-b-i-lt0 : goal.returns-then-b-i-lt0
returns-then-b-i-lt0 c =
    let b = c.args.b.now in
    let i = c.loop-i.i in
    sym (c.loop-i.invariant
    ∙ lowest-here (os b) i 26 (omega arith) (below-yes w8 (entry b i) (search rules) c.if-b-i-lt0.true))

pub loop-i-preserved : goal.loop-i-preserved
loop-i-preserved c =
    let b = c.args.b.now in
    let i = c.loop-i.i in
    c.loop-i.invariant
    ∙ lowest-more (os b) i 26 (omega arith) (below-no w8 (entry b i) (search rules) c.if-b-i-lt0.false)

pub returns : goal.returns
unfolding lowest
returns c = let e : c.loop-i.i ≡ 26 = omega arith in sym (c.loop-i.invariant ∙ rw e)
