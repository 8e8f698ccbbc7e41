-- The code's tests are the definition's, in their order.
use borrow.Author.Rules.{rules}
use mathlib.Core.Path.{◌≡◌, sym, ap, ◌∙◌}
use native.Mathlib.Omega.{arith}
use Rattle.std.specs.Prelude.{Err}
use Rattle.ints.proofs.Refusals.{number-pos}
use Rattle.ints.specs.declared.refusal.Refusal.TheVariants.{NotAnEnd}
use Rattle.position.specs.Board.{checkers}
use Rattle.bg_move.specs.Answers.{recovered_told}
use Rattle.bg_move.proofs.Answering.{recover-play, recover-12, recover-0, refused-answer, made-answer}
use Rattle.bg_move.proofs.recover.Goals as goal

pub returns-in_err-check_play : goal.returns-in_err-check_play
returns-in_err-check_play c =
    let a = c.args in
    let why = c.in_err-check_play.field-0.0 in
    let e : c.from_residual.result ≡ Err why = search rules in
    let n = c.in_err-check_play.ensures.is in
    ap recovered_told e
    ∙ refused-answer checkers a.old a.die1 a.die2 a.end why (n ∙ recover-play checkers a.old a.die1 a.die2 a.end (omega (arith, n, number-pos why)))

pub returns-then-is_end : goal.returns-then-is_end
returns-then-is_end c =
    let a = c.args in
    made-answer checkers a.old a.die1 a.die2 a.end c.steps_of.result
    (recover-0 checkers a.old a.die1 a.die2 a.end (sym c.in_ok-check_play.ensures.is) (sym c.is_end.ensures ∙ c.if-is_end.true)) c.steps_of.ensures

pub returns : goal.returns
returns c =
    let a = c.args in
    refused-answer checkers a.old a.die1 a.die2 a.end NotAnEnd
    (recover-12 checkers a.old a.die1 a.die2 a.end (sym c.in_ok-check_play.ensures.is) (sym c.is_end.ensures ∙ c.if-is_end.false))
