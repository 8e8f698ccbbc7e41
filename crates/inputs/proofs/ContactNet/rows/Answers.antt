-- Point 0 is x's bar, those below 25 are x's, the rest o's.
use mathlib.Core.Path.{◌≡◌, refl, sym, ap, ◌∙◌}
use Prim.Native.Nat.{◌+◌, ◌-◌}
use native.Mathlib.Omega.{arith}
use Rattle.position.specs.Board.{os}
use Rattle.inputs.specs.Rows.{contact-points}
use Rattle.inputs.proofs.Own.{begun_more, x-own, o-fits, o-own, row_of}
use Rattle.inputs.proofs.Fours.{contact-bar, contact-x, contact-o}
use Rattle.inputs.proofs.ContactNet.rows.Goals as goal

pub row-requires : goal.row-requires
row-requires c = let w = x-own c.requires 25 (omega arith) in (w.most, w.least)

pub loop-p-init : goal.loop-p-init
loop-p-init c =
    record {
      size = refl;
      row = λ k h.
          let e : k ≡ 0 = omega arith in
          rw e (row_of c.row.ensures ((x-own c.requires 25 (omega arith)).is ∙ sym (contact-bar c.args.b.now 0 refl)));
    }

pub row-requires-in-loop-p : goal.row-requires-in-loop-p
row-requires-in-loop-p c = let w = x-own c.requires c.loop-p.p (omega arith) in (w.most, w.least)

pub loop-p-preserved : goal.loop-p-preserved
loop-p-preserved c =
    let p = c.loop-p.p in
    let l = c.loop-p.auto.p in
    let w = x-own c.requires p (omega arith) in
    begun_more (p + 1) _ refl (omega arith)
    (row_of c.row-in-loop-p.ensures (w.is ∙ sym (contact-x c.args.b.now p (λ z. omega arith) (omega arith))))
    c.loop-p.invariant

pub loop-p-2-init : goal.loop-p-2-init
loop-p-2-init c =
    let e : c.loop-p.p ≡ 25 = omega arith in
    rw e at c.loop-p.invariant

pub overflow_sub-b : goal.overflow_sub-b
overflow_sub-b c = o-fits c.requires c.loop-p-2.p (omega arith)

pub row-requires-in-loop-p-2 : goal.row-requires-in-loop-p-2
row-requires-in-loop-p-2 c = let w = o-own c.requires c.loop-p-2.p (omega arith) in (w.most, w.least)

pub loop-p-2-preserved : goal.loop-p-2-preserved
loop-p-2-preserved c =
    let p = c.loop-p-2.p in
    let b = c.args.b.now in
    let e : 25 + p - 25 ≡ p = omega arith in
    let w = o-own c.requires p (omega arith) in
    begun_more (25 + (p + 1)) _ (omega arith) (omega arith)
    (row_of c.row-in-loop-p-2.ensures (w.is ∙ sym (contact-o b (25 + p) (omega arith) (omega arith) ∙ ap (os b) e)))
    c.loop-p-2.invariant

pub returns : goal.returns
returns c = λ k h. c.loop-p-2.invariant.row k (omega (arith, contact-points c.args.b.now))
