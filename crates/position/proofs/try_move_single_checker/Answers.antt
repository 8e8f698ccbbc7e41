-- The code's tests are the definition's, in their order.
use Rattle.std.proofs.Common.{rules, ◌≡◌, sym, ap, ◌∙◌, true, ℕ, Err, Ok}
use native.Mathlib.Omega.{arith}
use Rattle.ints.proofs.Signed.{small-more}
use Rattle.ints.proofs.Refusals.{number-pos}
use Rattle.ints.specs.Refusals.{number}
use Rattle.ints.specs.declared.refusal.Refusal.{Refusal}
use Rattle.ints.specs.declared.refusal.Refusal.TheVariants.{DieOutside1To6, FromAbove25, StepNotLegal}
use Rattle.dice.specs.Dice.{is_die}
use Rattle.dice.proofs.TwoDice.{die-range}
use Rattle.position.specs.Board.{checkers}
use Rattle.position.specs.Step.{stepped, step_refusal}
use Rattle.position.specs.Answers.{board_answer, board_told, step_answer}
use Rattle.position.proofs.Boards.{accepted-small}
use Rattle.position.proofs.Answering.{err-told, ok-told, passed, refused-by, step-board, step-die, step-point, step-illegal, step-made}
use Rattle.position.proofs.try_move_single_checker.Goals as goal
use Rattle.position.proofs.try_move_single_checker.Goals.{Else-not-is_die, Start}

-- a refusal of the step
refuse : (c : Start) (why : Refusal) → number why ≡ step_refusal checkers c.args.b c.args.from c.args.die
    → board_told (Err why) ≡ step_answer checkers c.args.b c.args.from c.args.die
unfolding step_answer
refuse c why e = err-told why (stepped c.args.b c.args.from c.args.die) _ e

-- past the die's test it shows 1 to 6
die : (c : Else-not-is_die) → is_die c.args.die ≡ true
die c = sym c.is_die.ensures ∙ c.if-not-is_die.false

pub returns-in_err-check : goal.returns-in_err-check
returns-in_err-check c =
    let why = c.in_err-check.field-0.0.why in
    let e : c.from_residual.result ≡ Err why = search rules in
    let n = refused-by c.check.ensures c.in_err-check.was in
    ap board_told e
    ∙ refuse (goal.at.returns-in_err-check c).Start why
    (n ∙ step-board checkers c.args.b c.args.from c.args.die (omega (arith, n, number-pos why)))

pub returns-then-not-is_die : goal.returns-then-not-is_die
returns-then-not-is_die c =
    let k = passed c.check.ensures c.in_ok-check.was in
    refuse (goal.at.returns-then-not-is_die c).Start DieOutside1To6
    (step-die checkers c.args.b c.args.from c.args.die k.ok (sym c.is_die.ensures ∙ c.if-not-is_die.true))

pub returns-then-from-gt-X_BAR : goal.returns-then-from-gt-X_BAR
returns-then-from-gt-X_BAR c =
    let k = passed c.check.ensures c.in_ok-check.was in
    let at = goal.at.returns-then-from-gt-X_BAR c in
    refuse at.Start FromAbove25 (step-point checkers c.args.b c.args.from c.args.die k.ok (die at.Else-not-is_die) (omega arith))

pub can_move-requires : goal.can_move-requires
can_move-requires c =
    let r = die-range c.args.die (die (goal.at.can_move-requires c).Else-not-is_die) in
    (omega arith, omega arith)

pub returns-then-can_move : goal.returns-then-can_move
unfolding step_answer
returns-then-can_move c =
    let k = passed c.check.ensures c.in_ok-check.was in
    let b = c.args.b in
    let p = c.args.from in
    let d = c.args.die in
    ap (λ b. board_told (Ok b)) c.move_single_checker.ensures
    ∙ ok-told (stepped b p d)
    ∙ ap (λ (k : ℕ). board_answer k (stepped b p d))
    (step-made checkers b p d k.ok (die (goal.at.returns-then-can_move c).Else-not-is_die) (omega arith) (sym c.can_move.ensures ∙ c.if-can_move.true))

pub returns : goal.returns
returns c =
    let k = passed c.check.ensures c.in_ok-check.was in
    let at = goal.at.returns c in
    refuse at.Start StepNotLegal
    (step-illegal checkers c.args.b c.args.from c.args.die k.ok (die at.Else-not-is_die) (omega arith) (sym c.can_move.ensures ∙ c.if-can_move.false))

pub move_single_checker-requires-clause-small : goal.move_single_checker-requires-clause-small
move_single_checker-requires-clause-small c =
    small-more checkers 124 c.args.b (omega arith) (accepted-small (passed c.check.ensures c.in_ok-check.was).accepted)
