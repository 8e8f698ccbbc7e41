-- A window of one slot at the number holds that end, if there is one.
use Rattle.std.proofs.Common.{rules, ◌≡◌, refl, sym, ap, ◌∙◌, ℕ, ◌<◌, ℤ, List, [], map, get_or, Ok, Err}
use native.Mathlib.Omega.{arith}
use lib.ListN.{length-replicate}
use Rattle.ints.specs.Twos.{from_twos}
use Rattle.ints.specs.declared.refusal.Refusal.TheVariants.{NoSuchEnd}
use Rattle.ints.proofs.Refusals.{number-pos}
use Rattle.position.specs.Board.{checkers}
use Rattle.position.specs.Answers.{board_answer, board_told}
use Rattle.position.proofs.Answering.{err-told, ok-told}
use Rattle.rules.specs.Ends.{switched_ends_of}
use Rattle.moves.specs.Answers.{ends_count, end_answer}
use Rattle.moves.proofs.Entries.{may_play, play-refused, count-is, slot_read, end_refused, end_none, end-some}
use Rattle.moves.proofs.end.Goals as goal
use Rattle.moves.proofs.end.Goals.{After-fill-n}

-- what the generator counted
ends : (c : After-fill-n) → c.fill-n.result ≡ ends_count c.args.b c.args.die1 c.args.die2
ends c =
    let a = c.args in
    let n = c.fill-n.ensures.number in
    omega (arith, n, count-is a.b a.die1 a.die2)

pub returns-in_err-check_play : goal.returns-in_err-check_play
unfolding end_answer
returns-in_err-check_play c =
    let a = c.args in
    let why = c.in_err-check_play.field-0.0 in
    let e : c.from_residual.result ≡ Err why = search rules in
    let n = play-refused c.check_play.ensures c.in_err-check_play.was in
    ap board_told e
    ∙ err-told why (get_or (switched_ends_of a.b a.die1 a.die2) a.number []) _
    (n ∙ end_refused checkers a.b a.die1 a.die2 a.number (omega (arith, n, number-pos why)))

pub returns-then-n-number : goal.returns-then-n-number
unfolding end_answer
returns-then-n-number c =
    let f = (goal.at.returns-then-n-number c).After-fill-n in
    let a = c.args in
    let ok = sym (may_play c.check_play.ensures c.in_ok-check_play.was).is in
    err-told NoSuchEnd (get_or (switched_ends_of a.b a.die1 a.die2) a.number []) _
    (end_none checkers a.b a.die1 a.die2 ok a.number (omega (arith, ends f, c.if-n-number.true)))

pub returns : goal.returns
unfolding end_answer
returns c =
    let f = (goal.at.returns c).After-fill-n in
    let a = c.args in
    let b = get_or (switched_ends_of a.b a.die1 a.die2) a.number [] in
    let may = may_play c.check_play.ensures c.in_ok-check_play.was in
    let h : a.number < ends_count a.b a.die1 a.die2 = omega (arith, ends f, c.if-n-number.false) in
    ap (λ (b : List ℤ). board_told (Ok b)) (
    c.board_of.ensures ∙ ap (map from_twos) c.fill-n.ensures.lent
    ∙ slot_read checkers (omega arith) a.b a.die1 a.die2 (may.ok refl) a.number _ (length-replicate {A = ℕ} 26 0) h
    )
    ∙ ok-told b ∙ ap (λ (m : ℕ). board_answer m b) (end-some checkers a.b a.die1 a.die2 (sym may.is) a.number h)
