-- An accepted board is small enough to be negated, and any other is refused.
use Rattle.std.proofs.Common.{rules, ◌≡◌, sym, ap, ◌∙◌, ℕ, Err, Ok}
use native.Mathlib.Omega.{arith}
use Rattle.ints.proofs.Signed.{small-more}
use Rattle.position.specs.Board.{checkers, switched}
use Rattle.position.specs.Answers.{board_answer, board_told, switch_answer}
use Rattle.position.proofs.Boards.{accepted-small}
use Rattle.position.proofs.Answering.{err-told, ok-told, passed, refused-by}
use Rattle.position.proofs.switch.Goals as goal

pub returns-in_err-check : goal.returns-in_err-check
unfolding switch_answer
returns-in_err-check c =
    let why = c.in_err-check.field-0.0.why in
    let e : c.from_residual.result ≡ Err why = search rules in
    let n = refused-by c.check.ensures c.in_err-check.was in
    ap board_told e ∙ err-told why (switched c.args.b) _ n

pub sides_switched-requires : goal.sides_switched-requires
sides_switched-requires c =
    small-more checkers 126 c.args.b (omega arith) (accepted-small (passed c.check.ensures c.in_ok-check.was).accepted)

pub returns : goal.returns
unfolding switch_answer
returns c =
    let k = passed c.check.ensures c.in_ok-check.was in
    ap (λ b. board_told (Ok b)) c.sides_switched.ensures
    ∙ ok-told (switched c.args.b)
    ∙ ap (λ (k : ℕ). board_answer k (switched c.args.b)) (sym k.ok)
