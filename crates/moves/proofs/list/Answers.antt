-- The ends are written only where all of them have room, which 17,550 always have.
use Rattle.std.proofs.Common.{rules, ◌≡◌, sym, ap, ◌∙◌, ℕ, ◌*◌, ◌≤◌, length, Err}
use native.Mathlib.Omega.{arith}
use Rattle.ints.specs.Answer.{value, refused}
use Rattle.ints.specs.Refusals.{told_with}
use Rattle.ints.proofs.Refusals.{number-pos}
use Rattle.position.specs.Board.{checkers}
use Rattle.moves.specs.Answers.{ends_count}
use Rattle.moves.proofs.Entries.{may_play, play-refused, count-is, count_most, list-refused, list-short, list_all}
use Rattle.moves.proofs.list.Goals as goal
use Rattle.moves.proofs.list.Goals.{then-out-lt-ROOM+else-out-n, else-out-lt-ROOM}

pub returns-in_err-check_play : goal.returns-in_err-check_play
returns-in_err-check_play c =
    let a = c.args in
    let why = c.in_err-check_play.field-0.0 in
    let e : c.from_residual.result ≡ Err (record { why = why; carried = 0 }) = search rules in
    let n = play-refused c.check_play.ensures c.in_err-check_play.was in
    let r = list-refused checkers a.b a.die1 a.die2 a.out.now (omega (arith, n, number-pos why)) in
    (ap told_with e ∙ ap (λ (k : ℕ). refused k 0) n ∙ r.0, r.1)

pub overflow_mul-n : goal.overflow_mul-n
overflow_mul-n c =
    let a = c.args in
    omega (arith, c.number_of_ends-n.ensures, count_most a.b a.die1 a.die2)

pub returns-then-out-n : goal.returns-then-out-n
returns-then-out-n c =
    let a = c.args in
    let q = c.number_of_ends-n.ensures in
    let ok = sym (may_play c.check_play.ensures c.in_ok-check_play.was).is in
    let r = list-short checkers a.b a.die1 a.die2 ok a.out.now (omega arith) in
    (ap (refused 10) q ∙ r.0, r.1)

pub returns : goal.returns
returns c =
    let a = c.args in
    let ok = sym (may_play c.check_play.ensures c.in_ok-check_play.was).is in
    -- where the list is filled it has room for every end
    let room : ends_count a.b a.die1 a.die2 * 26 ≤ length a.out.now = elim c.if-out-lt-ROOM.branch [ then-out-lt-ROOM+else-out-n w ↦ omega (arith, w.number_of_ends-n.ensures) | else-out-lt-ROOM w ↦ omega (arith, count_most a.b a.die1 a.die2) ] in
    let r = list_all checkers a.b a.die1 a.die2 ok a.out.now room in
    let n = c.fill.ensures.number in
    let k : c.fill.result ≡ ends_count a.b a.die1 a.die2 = omega (arith, n, count-is a.b a.die1 a.die2) in
    (ap value k ∙ r.0, c.fill.ensures.lent ∙ r.1)
