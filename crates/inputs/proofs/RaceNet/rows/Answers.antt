-- Points below 23 are x's from 1 on, the rest o's from 2 on.
use mathlib.Core.Path.{◌≡◌, refl, sym, ap, ◌∙◌}
use Prim.Native.Nat.{◌+◌, ◌-◌}
use native.Mathlib.Omega.{arith}
use Rattle.position.specs.Board.{xs, os}
use Rattle.inputs.specs.Rows.{race-points}
use Rattle.inputs.proofs.Own.{begun_more, x-own, o-fits, o-own, row_of}
use Rattle.inputs.proofs.Fours.{race-x, race-o}
use Rattle.inputs.proofs.RaceNet.rows.Goals as goal

pub loop-p-init : goal.loop-p-init
loop-p-init c = record { size = refl; row = λ k h. absurd (omega arith) }

pub row-requires : goal.row-requires
row-requires c = let w = x-own c.requires c.loop-p.p (omega arith) in (w.most, w.least)

pub loop-p-preserved : goal.loop-p-preserved
loop-p-preserved c =
    let p = c.loop-p.p in
    let l = c.loop-p.auto.p in
    let b = c.args.b.now in
    let e : p - 1 + 1 ≡ p = omega arith in
    let w = x-own c.requires p (omega arith) in
    begun_more (p + 1 - 1) _ (omega arith) (omega arith)
    (row_of c.row.ensures (w.is ∙ sym (race-x b (p - 1) (omega arith) ∙ ap (xs b) e)))
    c.loop-p.invariant

pub loop-p-2-init : goal.loop-p-2-init
loop-p-2-init c =
    let e : c.loop-p.p - 1 ≡ 23 = omega arith in
    rw e at c.loop-p.invariant

pub overflow_sub-b : goal.overflow_sub-b
overflow_sub-b c = o-fits c.requires _ (omega arith)

pub row-requires-in-loop-p-2 : goal.row-requires-in-loop-p-2
row-requires-in-loop-p-2 c = ((o-own c.requires _ (omega arith)).most, (o-own c.requires _ (omega arith)).least)

pub loop-p-2-preserved : goal.loop-p-2-preserved
loop-p-2-preserved c =
    let p = c.loop-p-2.p in
    let l = c.loop-p-2.auto.p in
    let b = c.args.b.now in
    let e : 21 + p - 21 ≡ p = omega arith in
    let w = o-own c.requires p (omega arith) in
    begun_more (21 + (p + 1)) _ (omega arith) (omega arith)
    (row_of c.row-in-loop-p-2.ensures (w.is ∙ sym (race-o b (21 + p) (omega arith) (omega arith) ∙ ap (os b) e)))
    c.loop-p-2.invariant

pub returns : goal.returns
returns c = λ k h. c.loop-p-2.invariant.row k (omega (arith, race-points c.args.b.now))
