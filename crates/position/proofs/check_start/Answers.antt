-- The tests are the definition's, in their order, and few checkers cannot wrap.
use Rattle.std.proofs.Common.{rules, ◌≡◌, Err}
use native.Mathlib.Omega.{arith}
use Rattle.ints.specs.Refusals.{refusal_in}
use Rattle.ints.proofs.Refusals.{number-pos}
use Rattle.position.specs.Board.{checkers}
use Rattle.position.specs.Answers.{Judged}
use Rattle.position.proofs.Answering.{passed}
use Rattle.position.proofs.Boards.{started-board, started-6, started-5-x, started-5-o, started-0}
use Rattle.position.proofs.check_start.Goals as goal

pub returns-in_err-x : goal.returns-in_err-x
returns-in_err-x c =
    let why = c.in_err-x.field-0.0.why in
    let e : c.from_residual.result ≡ Err why = search rules in
    let k : Judged checkers c.args.b (refusal_in c.from_residual.result) = rw e c.in_err-x.ensures.judged in
    started-board checkers _ k (λ z. omega (arith, (rw e at z), number-pos why))

pub returns-then-x-o-eq0 : goal.returns-then-x-o-eq0
returns-then-x-o-eq0 c =
    let k = passed c.check.ensures c.in_ok-x.was in
    started-6 checkers _ k.ok (omega (arith, k.x, k.o)) (omega (arith, k.x, k.o))

pub returns-then-x-eq0 : goal.returns-then-x-eq0
returns-then-x-eq0 c =
    let k = passed c.check.ensures c.in_ok-x.was in
    started-5-x checkers _ k.ok (omega (arith, k.x)) (omega (arith, k.x, k.o))

pub returns-then-o-eq0 : goal.returns-then-o-eq0
returns-then-o-eq0 c =
    let k = passed c.check.ensures c.in_ok-x.was in
    started-5-o checkers _ k.ok (omega (arith, k.x, k.o)) (omega (arith, k.o))

pub returns : goal.returns
returns c =
    let k = passed c.check.ensures c.in_ok-x.was in
    started-0 checkers _ k.accepted (omega (arith, k.x, k.o)) (omega (arith, k.o))
