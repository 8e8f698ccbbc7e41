-- The tests are the definition's, and `omega` carries them from the callees' results to the counts.
use Rattle.std.proofs.Common.{rules, ◌≡◌, ap, ◌∙◌, ℕ, Err}
use native.Mathlib.Omega.{arith}
use Rattle.ints.specs.Answer.{refused}
use Rattle.ints.proofs.Refusals.{number-pos}
use Rattle.position.specs.Board.{checkers}
use Rattle.position.specs.Answers.{phase_told}
use Rattle.position.proofs.Answering.{passed, refused-by}
use Rattle.position.proofs.Phases.{phase-refused, phase-empty, win-normal, win-bg, win-gammon, lose-normal, lose-bg, lose-gammon, contact, race}
use Rattle.position.proofs.phase.game_phase.Goals as goal

pub returns-in_err-x : goal.returns-in_err-x
returns-in_err-x c =
    let why = c.in_err-x.field-0.0.why in
    let e : c.from_residual.result ≡ Err why = search rules in
    let n = refused-by c.check.ensures c.in_err-x.was in
    ap phase_told e ∙ ap (λ (k : ℕ). refused k 0) n ∙ phase-refused checkers c.args.b (omega (arith, n, number-pos why))

pub returns-then-o-eq0 : goal.returns-then-o-eq0
returns-then-o-eq0 c =
    let k = passed c.check.ensures c.in_ok-x.was in
    phase-empty checkers _ k.ok (omega (arith, k.x, k.o)) (omega (arith, k.x, k.o))

pub returns-then-o-lt-NUM_OF_CHECKERS : goal.returns-then-o-lt-NUM_OF_CHECKERS
returns-then-o-lt-NUM_OF_CHECKERS c =
    let k = passed c.check.ensures c.in_ok-x.was in
    win-normal checkers _ k.ok (omega (arith, k.x, k.o)) (omega (arith, k.x, k.o)) (omega (arith, k.x, k.o))

pub returns-then-checkers_below-gt0 : goal.returns-then-checkers_below-gt0
returns-then-checkers_below-gt0 c =
    let k = passed c.check.ensures c.in_ok-x.was in
    win-bg checkers _ k.ok (omega (arith, k.x, k.o)) (omega (arith, k.x, k.o)) (omega (arith, k.x, k.o)) (omega (arith, k.x, k.o))

pub returns-then-x-eq0 : goal.returns-then-x-eq0
returns-then-x-eq0 c =
    let k = passed c.check.ensures c.in_ok-x.was in
    win-gammon checkers _ k.ok (omega (arith, k.x, k.o)) (omega (arith, k.x, k.o)) (omega (arith, k.x, k.o)) (omega (arith, k.x, k.o))

pub returns-then-x-lt-NUM_OF_CHECKERS : goal.returns-then-x-lt-NUM_OF_CHECKERS
returns-then-x-lt-NUM_OF_CHECKERS c =
    let k = passed c.check.ensures c.in_ok-x.was in
    lose-normal checkers _ k.ok (omega (arith, k.x, k.o)) (omega (arith, k.x, k.o)) (omega (arith, k.x, k.o))

pub returns-then-checkers_below-x : goal.returns-then-checkers_below-x
returns-then-checkers_below-x c =
    let k = passed c.check.ensures c.in_ok-x.was in
    lose-bg checkers _ k.ok (omega (arith, k.x, k.o)) (omega (arith, k.x, k.o)) (omega (arith, k.x, k.o)) (omega (arith, k.x, k.o))

pub returns-then-o-eq0-2 : goal.returns-then-o-eq0-2
returns-then-o-eq0-2 c =
    let k = passed c.check.ensures c.in_ok-x.was in
    lose-gammon checkers _ k.ok (omega (arith, k.x, k.o)) (omega (arith, k.x, k.o)) (omega (arith, k.x, k.o)) (omega (arith, k.x, k.o))

pub returns-then-lowest_o-highest_x : goal.returns-then-lowest_o-highest_x
returns-then-lowest_o-highest_x c =
    let k = passed c.check.ensures c.in_ok-x.was in
    contact checkers _ k.ok (omega (arith, k.x, k.o)) (omega (arith, k.x, k.o)) (omega (arith, k.x, k.o))

pub returns : goal.returns
returns c =
    let k = passed c.check.ensures c.in_ok-x.was in
    race checkers _ k.ok (omega (arith, k.x, k.o)) (omega (arith, k.x, k.o)) (omega (arith, k.x, k.o))
