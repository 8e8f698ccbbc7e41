-- The refusals in their order, and the stores, one after another, are all inputs stored.
use Rattle.std.proofs.Common.{rules, Err, ◌≡◌, sym, ap, ◌∙◌, ℕ, ◌-◌, ◌<◌, ◌≤◌, map, length, length-set}
use native.Mathlib.Omega.{arith}
use lib.ListN.{length-map, drop_of_length-le}
use Rattle.position.specs.Board.{checkers, refusal_of}
use Rattle.position.proofs.Answering.{passed, refused-by}
use Rattle.inputs.specs.Inputs.{bits, four, fours, inputs_of}
use Rattle.inputs.specs.Answers.{filled_told}
use Rattle.inputs.proofs.Fours.{length-inputs}
use Rattle.inputs.proofs.Stores.{sets-all, row-stored}
use Rattle.inputs.proofs.Answers.{fill-board, fill-13, fill_done}
use Rattle.inputs.proofs.fill.Goals as goal

pub returns-in_err-all : goal.returns-in_err-all
returns-in_err-all g c =
    let b = c.args.b.now in
    let why = c.in_err-all.field-0.0.why in
    let e : c.from_residual.result ≡ Err why = search rules in
    let f = fill-board _ g.N.Net.SIZE (inputs_of checkers b (g.N.Net.counts b)) c.args.out.now why (refused-by c.check.ensures c.in_err-all.was) in
    (ap filled_told e ∙ f.0, f.1)

pub returns-then-out-SIZE : goal.returns-then-out-SIZE
returns-then-out-SIZE g c =
    let b = c.args.b.now in
    let o = c.args.out.now in
    let e : length o ≡ g.N.Net.SIZE → ⊥ = λ z. c.if-out-SIZE.true (z ∙ sym c.SIZE.ensures) in
    fill-13 _ g.N.Net.SIZE (inputs_of checkers b (g.N.Net.counts b)) o (passed c.check.ensures c.in_ok-all.was).ok e

pub bounds-out-0 : goal.bounds-out-0
bounds-out-0 g c = omega (arith, g.met.N.Net.four_each c.args.b.now)

pub bounds-out-1 : goal.bounds-out-1
bounds-out-1 g c = omega (arith, g.met.N.Net.four_each c.args.b.now, length-set c.args.out.now 0 c.off_bits.result)

pub loop-k-preserved : goal.loop-k-preserved
loop-k-preserved g c =
    let l = c.loop-k in
    let counts = g.N.Net.counts c.args.b.now in
    let s = g.met.N.Net.four_each c.args.b.now in
    let h : l.k < length counts = omega arith in
    let w = c.rows-rows.ensures l.k h in
    row-stored counts l.out c.put_four.new.out l.k c.td_bits.result h c.put_four.ensures (c.td_bits.ensures ∙ ap (λ (n : ℕ). map bits (four n)) w.is)
    ∙ l.invariant

pub returns : goal.returns
unfolding inputs_of fours
returns g c =
    let b = c.args.b.now in
    let o = c.args.out.now in
    let k = passed c.check.ensures c.in_ok-all.was in
    let counts = g.N.Net.counts b in
    let inputs = inputs_of checkers b counts in
    let s = g.met.N.Net.four_each b in
    let e : length o ≡ g.N.Net.SIZE = c.if-out-SIZE.false ∙ c.SIZE.ensures in
    let r = fill_done (refusal_of checkers b) g.N.Net.SIZE inputs o k.ok e in
    let x = c.off_bits.ensures ∙ ap (λ (n : ℕ). bits (checkers - n)) k.x in
    let y = c.off_bits-2.ensures ∙ ap (λ (n : ℕ). bits (checkers - n)) k.o in
    let l : length (map bits inputs) ≡ length o = omega (arith, length-map inputs bits, length-inputs checkers b counts) in
    let d : length counts ≤ c.loop-k.k = omega arith in
    let i = rw (drop_of_length-le counts d) at c.loop-k.invariant in
    (r.0, i ∙ rw (x, y) (sets-all o (map bits inputs) l ∙ r.1))
