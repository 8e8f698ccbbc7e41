use borrow.Author.Rules.{rules}
use mathlib.Core.Path.{◌≡◌, sym, ◌∙◌}
use Prim.Native.Nat.{◌-◌}
use native.Mathlib.Omega.{arith}
use mir.Syntax.{w8}
use Rattle.ints.proofs.Signed.{above-yes, above-no}
use Rattle.position.specs.Board.{entry, xs}
use Rattle.position.specs.Phase.{highest}
use Rattle.position.proofs.Phases.{highest-here, highest-less}
use Rattle.position.proofs.phase.highest_x.Goals as goal

pub returns-then-b-i-gt0 : goal.returns-then-b-i-gt0
returns-then-b-i-gt0 c =
    let b = c.args.b.now in
    let i = c.loop-i.i in
    sym (c.loop-i.invariant
    ∙ highest-here (xs b) i (omega arith) (above-yes w8 (entry b (i - 1)) (search rules) c.if-b-i-gt0.true))

pub loop-i-preserved : goal.loop-i-preserved
loop-i-preserved c =
    let b = c.args.b.now in
    let i = c.loop-i.i in
    c.loop-i.invariant
    ∙ highest-less (xs b) i (omega arith) (above-no w8 (entry b (i - 1)) (search rules) c.if-b-i-gt0.false)

pub returns : goal.returns
unfolding highest
returns c = let e : c.loop-i.i ≡ 0 = omega arith in sym (c.loop-i.invariant ∙ rw e)
