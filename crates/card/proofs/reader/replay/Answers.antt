-- Each step of the loop is one of the definition's.
use mathlib.Core.Path.{◌≡◌, refl, ap, ◌∙◌}
use Prim.Native.Nat.{◌≤◌, ◌+◌, ◌*◌}
use native.Mathlib.Omega.{arith}
use lib.ListN.{length, drop, length-drop}
use lib.Seq.{take_all}
use Rattle.std.proofs.Common.{rules, Ok, Err}
use Rattle.std.specs.Slice.Iter.{chunks_rest, chunks_size}
use Rattle.position.specs.Board.{checkers}
use Rattle.card.specs.Game.{turns_most}
use Rattle.card.specs.Read.{turn_at}
use Rattle.card.specs.Replay.{TurnRead}
use Rattle.card.proofs.Starts.{unrefused-begun}
use Rattle.card.proofs.Replays.{no-start, going_start, all-read, one-over, turn-refused, going_on, Cut}
use Rattle.card.proofs.reader.replay.Goals as goal
use Rattle.card.proofs.reader.replay.Goals.{In_ok-last, In-Some}

-- the start record is whole
whole : (c : In_ok-last) → 12 ≤ length c.args.card.now
whole c = (unrefused-begun checkers c.args.card.now c.in_ok-last.ensures.0).whole

pub returns-in_err-last : goal.returns-in_err-last
returns-in_err-last c =
    let h = no-start checkers turns_most c.args.card.now _ c.in_err-last.ensures in
    search rules

pub slice_bounds-records-count : goal.slice_bounds-records-count
slice_bounds-records-count c = whole c

pub slice_bounds-records-start : goal.slice_bounds-records-start
slice_bounds-records-start c = let h = whole c in search rules

pub loop-bytes-init : goal.loop-bytes-init
loop-bytes-init c =
    let a = c.args in
    let h = going_start checkers turns_most a.card.now a.stop c.in_ok-last.ensures in
    let i = c.into_iter-bytes-iterator.ensures.into_iter_gives in
    let size : chunks_size c.into_iter-bytes-iterator.result ≡ 5 = ap chunks_size i ∙ c.chunks-bytes-items.ensures.size in
    let rest : chunks_rest c.into_iter-bytes-iterator.result ≡ drop 12 a.card.now = ap chunks_rest i ∙ c.chunks-bytes-items.ensures.rest ∙ take_all _ (drop 12 a.card.now) (omega (arith, length-drop 12 a.card.now)) in
    (omega arith, tt, size, rw (rest, c.then_some-asked.ensures) h)

-- the record that is next, and what is left after it
cut : (c : In-Some) → Cut (chunks_rest c.loop-bytes.bytes-iterator) c.in-Some.bytes.now (chunks_rest c.next.new.self)
cut c =
    let t = c.in-Some.ensures.steps in
    record { parts = t.1.0; size = rw c.loop-bytes.invariant.2 at t.1.1; some = t.1.2 }

pub returns-then-turns-eq-MAX_TURNS : goal.returns-then-turns-eq-MAX_TURNS
returns-then-turns-eq-MAX_TURNS c =
    let s = (goal.at.returns-then-turns-eq-MAX_TURNS c).In-Some in
    let e : 12 + s.loop-bytes.turns * 5 ≡ turn_at s.loop-bytes.turns = omega arith in
    rw e (one-over checkers turns_most c.args.card.now c.args.stop s.loop-bytes.invariant.3 (cut s) c.if-turns-eq-MAX_TURNS.true)

pub returns-in-Err : goal.returns-in-Err
returns-in-Err c =
    let s = (goal.at.returns-in-Err c).In-Some in
    let at = 12 + s.loop-bytes.turns * 5 in
    turn-refused checkers turns_most c.args.card.now c.args.stop s.loop-bytes.invariant.3 (cut s) c.if-turns-eq-MAX_TURNS.false
    (Err c.in-Err.why) c.in-Err.ensures (record { why = c.in-Err.why; carried = at }) at (omega arith) (λ x q. cc) (λ why q. search rules)

pub loop-bytes-preserved-then-turns-stop : goal.loop-bytes-preserved-then-turns-stop
loop-bytes-preserved-then-turns-stop c =
    let s = (goal.at.loop-bytes-preserved-then-turns-stop c).In-Some in
    let t : TurnRead checkers c.loop-bytes.last c.in-Some.bytes.now (Ok c.in-Ok.next) = c.in-Ok.ensures in
    let size = c.in-Some.ensures.steps.0 ∙ s.loop-bytes.invariant.2 in (
      omega arith,
      tt,
      size,
      going_on checkers turns_most c.args.card.now c.args.stop s.loop-bytes.invariant.3 (cut s) c.if-turns-eq-MAX_TURNS.false t (λ e. refl) (λ e. absurd (e c.if-turns-stop.true)),
    )

pub loop-bytes-preserved : goal.loop-bytes-preserved
loop-bytes-preserved c =
    let s = (goal.at.loop-bytes-preserved c).In-Some in
    let t : TurnRead checkers c.loop-bytes.last c.in-Some.bytes.now (Ok c.in-Ok.next) = c.in-Ok.ensures in
    let size = c.in-Some.ensures.steps.0 ∙ s.loop-bytes.invariant.2 in (
      omega arith,
      tt,
      size,
      going_on checkers turns_most c.args.card.now c.args.stop s.loop-bytes.invariant.3 (cut s) c.if-turns-eq-MAX_TURNS.false t (λ e. absurd (c.if-turns-stop.false e)) (λ e. refl),
    )

pub returns : goal.returns
returns c =
    all-read checkers turns_most c.args.card.now c.args.stop c.loop-bytes.invariant.3 c.in-None.ensures.steps.1.0
