-- The tests are the definition's, in their order.
use Rattle.std.proofs.Common.{rules, ◌≡◌, sym, refl, ◌∙◌, Err}
use native.Mathlib.Omega.{arith}
use Rattle.ints.specs.Refusals.{refusal_in}
use Rattle.ints.proofs.Refusals.{number-pos}
use Rattle.position.specs.Answers.{Started}
use Rattle.position.specs.Board.{checkers}
use Rattle.moves.proofs.Entries.{play-board, play-first, play-second, play-none, may_start}
use Rattle.moves.proofs.check_play.Goals as goal

pub returns-in_err-check_start : goal.returns-in_err-check_start
returns-in_err-check_start c =
    let a = c.args in
    let why = c.in_err-check_start.field-0.0 in
    let e : c.from_residual.result ≡ Err why = search rules in
    let s : Started checkers a.b (refusal_in c.from_residual.result) = rw e c.in_err-check_start.ensures in
    play-board checkers a.b a.die1 a.die2 s (λ z. omega (arith, (rw e at z), number-pos why))

pub returns-then-not-is_die : goal.returns-then-not-is_die
returns-then-not-is_die c =
    let a = c.args in
    play-first checkers a.b a.die1 a.die2 (sym (may_start c.check_start.ensures c.in_ok-check_start.was).is) (sym c.is_die.ensures ∙ c.if-not-is_die.true)

pub returns-then-not-is_die-2 : goal.returns-then-not-is_die-2
returns-then-not-is_die-2 c =
    let a = c.args in
    play-second checkers a.b a.die1 a.die2 (sym (may_start c.check_start.ensures c.in_ok-check_start.was).is)
    (sym c.is_die-2.ensures ∙ c.if-not-is_die-2.true)

pub returns : goal.returns
returns c =
    let a = c.args in
    let s = may_start c.check_start.ensures c.in_ok-check_start.was in
    play-none checkers a.b a.die1 a.die2 (sym s.is) record {
      accepted = s.ok refl;
      first = sym c.is_die.ensures ∙ c.if-not-is_die.false;
      second = sym c.is_die-2.ensures ∙ c.if-not-is_die-2.false;
    }
