-- The refusal, or the number of ends.
use Rattle.std.proofs.Common.{rules, ◌≡◌, sym, ap, ◌∙◌, ℕ, Err}
use native.Mathlib.Omega.{arith}
use Rattle.ints.specs.Answer.{value, refused}
use Rattle.ints.specs.Refusals.{told}
use Rattle.ints.proofs.Refusals.{number-pos}
use Rattle.position.specs.Board.{checkers}
use Rattle.moves.proofs.Entries.{may_play, play-refused, count-refused, count-told}
use Rattle.moves.proofs.count.Goals as goal

pub returns-in_err-check_play : goal.returns-in_err-check_play
returns-in_err-check_play c =
    let a = c.args in
    let why = c.in_err-check_play.field-0.0 in
    let e : c.from_residual.result ≡ Err why = search rules in
    let n = play-refused c.check_play.ensures c.in_err-check_play.was in
    ap told e ∙ ap (λ (k : ℕ). refused k 0) n ∙ count-refused checkers a.b a.die1 a.die2 (omega (arith, n, number-pos why))

pub returns : goal.returns
returns c =
    let a = c.args in
    ap value c.number_of_ends.ensures
    ∙ count-told checkers a.b a.die1 a.die2 (sym (may_play c.check_play.ensures c.in_ok-check_play.was).is)
