-- Ends are accepted boards, and the switch keeps places.
use mathlib.Core.Path.{refl, sym, ◌∙◌}
use native.Mathlib.Omega.{arith}
use Rattle.ints.proofs.Signed.{small-more}
use Rattle.ints.proofs.Refusals.{number-pos}
use Rattle.position.specs.Board.{checkers, Accepted}
use Rattle.position.specs.Answers.{unaccepted_in}
use Rattle.position.proofs.Boards.{accepted-small}
use Rattle.bg_move.proofs.Answering.{err-refused, unrefused, refused-no-end, numbered-end}
use Rattle.bg_move.proofs.is_end.Goals as goal
use Rattle.bg_move.proofs.is_end.Goals.{Else-is_err}

-- past its test the board is accepted
accepted : (c : Else-is_err) → Accepted checkers c.args.e
accepted c =
    c.check.ensures.judged.ok
    (unrefused unaccepted_in (λ all. refl) (λ u. number-pos u.why) c.check.result (sym c.is_err.ensures.value ∙ c.if-is_err.false))

pub returns-then-is_err : goal.returns-then-is_err
returns-then-is_err c =
    let a = c.args in
    refused-no-end checkers a.b a.die1 a.die2 (c.requires.ok refl) a.e
    (λ z. omega (
      arith,
      c.check.ensures.judged.is,
      err-refused unaccepted_in (λ all. refl) (λ u. number-pos u.why) c.check.result (sym c.is_err.ensures.value ∙ c.if-is_err.true),
    ))

pub sides_switched-requires : goal.sides_switched-requires
sides_switched-requires c =
    small-more checkers 126 c.args.e (omega arith) (accepted-small (accepted (goal.at.sides_switched-requires c).Else-is_err))

pub returns : goal.returns
returns c =
    let a = c.args in
    c.is_ok.ensures.value
    ∙ numbered-end checkers a.b a.die1 a.die2 (c.requires.ok refl) a.e (accepted (goal.at.returns c).Else-is_err).size (sym c.requires.is) c.end_number.result
    (rw c.sides_switched.ensures at c.end_number.ensures)
