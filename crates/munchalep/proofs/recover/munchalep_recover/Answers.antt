-- A refusal and a row with too few places leave the row; else the steps go to its first places, one after another.
use mathlib.Core.Path.{◌≡◌, sym, ap, ap₂, ◌∙◌}
use mathlib.Core.List.{List}
use Prim.Native.Nat.{ℕ, ◌≤◌}
use native.Mathlib.Omega.{arith}
use lib.ListN.{length, get_or, set}
use lib.Seq.{get_or-take}
use Rattle.std.proofs.lemmas.List.{length-take}
use Rattle.position.specs.Board.{checkers}
use Rattle.bg_move.specs.declared.Step.{Step}
use Rattle.bg_move.specs.Answers.{none}
use Rattle.bg_move.proofs.Rows.{count-most, row-refused, row-short, row-made, laid, laid-none, laid_more, laid-all}
use Rattle.munchalep.proofs.recover.munchalep_recover.Goals as goal

pub returns-in-Err : goal.returns-in-Err
returns-in-Err c =
    let a = c.args in
    let r = row-refused checkers a.old.now a.die1 a.die2 a.end.now a.row.now c.in-Err.refusal c.in-Err.ensures in
    (c.number.ensures ∙ r.0, r.1)

pub as_slice-steps-requires : goal.as_slice-steps-requires
as_slice-steps-requires c =
    let a = c.args in
    count-most checkers a.old.now a.die1 a.die2 a.end.now a.row.now c.in-Ok.steps c.in-Ok.ensures

pub returns-then-row-steps : goal.returns-then-row-steps
returns-then-row-steps c =
    let a = c.args in
    let t = c.as_slice-steps in
    let r = row-short checkers a.old.now a.die1 a.die2 a.end.now a.row.now c.in-Ok.steps c.in-Ok.ensures t.result.now t.ensures c.if-row-steps.true in
    (c.number-then-row-steps.ensures ∙ r.0, r.1)

pub loop-i-init : goal.loop-i-init
loop-i-init c = laid-none c.as_slice-steps.result.now c.args.row.now

-- the step that is stored is the list's
pub loop-i-preserved : goal.loop-i-preserved
loop-i-preserved c =
    let l = c.loop-i in
    let row = c.args.row.now in
    let t = c.as_slice-steps in
    let ts = t.result.now in
    let s = c.in-Ok.steps in
    let few : length ts ≤ s.count = omega (arith, ap length t.ensures, length-take s.count s.steps) in
    let is : c.at.result ≡ get_or ts l.i none =
    c.at.ensures ∙ sym (ap (λ (z : List Step). get_or z l.i none) t.ensures ∙ get_or-take s.count s.steps l.i none (omega (arith, few))) in
    ap₂ (λ (z : List Step) (one : Step). set z l.i one) l.invariant is ∙ laid_more ts row l.i none (omega arith) (omega arith)

pub returns : goal.returns
returns c =
    let a = c.args in
    let t = c.as_slice-steps in
    let r = row-made checkers a.old.now a.die1 a.die2 a.end.now a.row.now c.in-Ok.steps c.in-Ok.ensures t.result.now t.ensures c.if-row-steps.false in
    let all : c.loop-i.i ≡ length t.result.now = omega arith in
    (r.0, c.loop-i.invariant ∙ ap (λ (k : ℕ). laid t.result.now k a.row.now) all ∙ laid-all t.result.now a.row.now ∙ r.1)
