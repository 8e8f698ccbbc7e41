use mathlib.Core.Path.{◌≡◌, refl, sym, ap, ◌∙◌}
use native.Mathlib.Omega.{arith}
use Rattle.rules.specs.Ends.{doubles, most}
use Rattle.moves.proofs.Passing.{passed_none, none_passed, passed-append, passed_is}
use Rattle.moves.proofs.Doubling.{length-points, length_none, most-made, most-fewer}
use Rattle.moves.proofs.double_moves.most_steps.Goals as goal

pub loop-k-init : goal.loop-k-init
loop-k-init c = (passed_none c.args.window.now 0, omega arith, refl)

pub returns-then-n-gt0 : goal.returns-then-n-gt0
returns-then-n-gt0 c =
    let i = c.loop-k.invariant in
    let n = c.level-n.ensures.passed.number in
    passed_is (sym (i.2 ∙ most-made c.args.die c.args.b.now c.requires.2 c.loop-k.k (omega arith) (omega arith)))
    (passed-append i.0 c.level-n.ensures)

pub loop-k-preserved : goal.loop-k-preserved
loop-k-preserved c =
    let k = c.loop-k.k in
    let d = c.args.die in
    let b = c.args.b.now in
    let i = c.loop-k.invariant in
    let n = c.level-n.ensures.passed.number in
    let none = length_none (doubles d k 24 b) (omega arith) in
    (passed-append i.0 (none_passed none c.level-n.ensures), omega arith, i.2 ∙ most-fewer d b c.requires.2 k (omega arith) none)

pub returns : goal.returns
unfolding most
returns c =
    let i = c.loop-k.invariant in
    let e : c.loop-k.k ≡ 0 = omega arith in
    passed_is (sym (i.2 ∙ ap (most c.args.die c.args.b.now) e)) (passed-append i.0 c.put.ensures)

pub level-n-requires-clause-b_bound : goal.level-n-requires-clause-b_bound
level-n-requires-clause-b_bound c =
    omega (arith, length-points c.args.die c.args.b.now c.requires.2 c.loop-k.k (omega arith))
