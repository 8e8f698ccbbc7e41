-- The refusals in their order, the two sides' checkers off, and the values of a point.
use Rattle.std.proofs.Common.{rules, Err, ◌≡◌, sym, ap, ◌∙◌, ℕ, ◌+◌, ◌-◌, ◌*◌, ◌%◌, ◌<◌, ◌≤◌, length, get_or}
use native.Mathlib.Omega.{arith}
use Rattle.position.specs.Board.{checkers, refusal_of}
use Rattle.position.proofs.Answering.{passed, refused-by}
use Rattle.inputs.specs.Inputs.{whole, four, inputs_of}
use Rattle.inputs.specs.Answers.{given, input_told, place_answer}
use Rattle.inputs.proofs.Fours.{input-four}
use Rattle.inputs.proofs.Answers.{place-board, place-14, place-value}
use Rattle.inputs.proofs.input.Given.{Over}
use Rattle.inputs.proofs.input.Goals as goal
use Rattle.inputs.proofs.input.Goals.{Else-place-SIZE}

-- past the place's test there is a value
there : (g : Over) (c : Else-place-SIZE g) → given (whole (get_or (inputs_of checkers c.args.b (g.N.Net.counts c.args.b)) c.args.place 0))
    ≡ place_answer (refusal_of checkers c.args.b) g.N.Net.SIZE (inputs_of checkers c.args.b (g.N.Net.counts c.args.b)) c.args.place
there g c = place-value _ _ _ c.args.place (passed c.check.ensures c.in_ok-all.was).ok (omega arith)

pub returns-in_err-all : goal.returns-in_err-all
returns-in_err-all g c =
    let b = c.args.b in
    let why = c.in_err-all.field-0.0.why in
    let e : c.from_residual.result ≡ Err why = search rules in
    ap input_told e ∙ place-board _ g.N.Net.SIZE (inputs_of checkers b (g.N.Net.counts b)) c.args.place why (refused-by c.check.ensures c.in_err-all.was)

pub returns-then-place-SIZE : goal.returns-then-place-SIZE
returns-then-place-SIZE g c = place-14 _ _ _ c.args.place (passed c.check.ensures c.in_ok-all.was).ok (omega arith)

pub returns-then-place-eq0 : goal.returns-then-place-eq0
unfolding inputs_of
returns-then-place-eq0 g c =
    ap given
    (c.off.ensures
    ∙ ap (λ (n : ℕ). whole (checkers - n)) (passed c.check.ensures c.in_ok-all.was).x
    ∙ ap (λ (p : ℕ). whole (get_or (inputs_of checkers c.args.b (g.N.Net.counts c.args.b)) p 0)) (sym c.if-place-eq0.true))
    ∙ there g (goal.at.returns-then-place-eq0 g c).Else-place-SIZE

pub returns-then-place-eq1 : goal.returns-then-place-eq1
unfolding inputs_of
returns-then-place-eq1 g c =
    ap given
    (c.off-then-place-eq1.ensures
    ∙ ap (λ (n : ℕ). whole (checkers - n)) (passed c.check.ensures c.in_ok-all.was).o
    ∙ ap (λ (p : ℕ). whole (get_or (inputs_of checkers c.args.b (g.N.Net.counts c.args.b)) p 0)) (sym c.if-place-eq1.true))
    ∙ there g (goal.at.returns-then-place-eq1 g c).Else-place-SIZE

pub row_at-row-requires : goal.row_at-row-requires
row_at-row-requires g c =
    let s = g.met.N.Net.four_each c.args.b in
    let l : 2 ≤ c.args.place = omega (arith, c.if-place-eq0.false, c.if-place-eq1.false) in
    ((passed c.check.ensures c.in_ok-all.was).accepted, omega arith)

pub returns : goal.returns
returns g c =
    let b = c.args.b in
    let p = c.args.place in
    let s = g.met.N.Net.four_each b in
    let l : 2 ≤ p = omega (arith, c.if-place-eq0.false, c.if-place-eq1.false) in
    let h : p < 2 + 4 * length (g.N.Net.counts b) = omega arith in
    let w = c.row_at-row.ensures in
    ap given
    (c.td_input.ensures
    ∙ ap (λ (n : ℕ). whole (get_or (four n) ((p - 2) % 4) 0)) w.is
    ∙ ap whole (sym (input-four checkers b (g.N.Net.counts b) p l h)))
    ∙ there g (goal.at.returns g c).Else-place-SIZE
