use mathlib.Core.Path.{◌≡◌, refl, sym, ap, ◌∙◌}
use Prim.Native.Nat.{ℕ, ◌+◌, ◌≤◌}
use native.Mathlib.Omega.{arith}
use lib.ListN.{length}
use Rattle.ints.specs.Answer.{refused}
use Rattle.ints.specs.Refusals.{told}
use Rattle.ints.proofs.Refusals.{number-pos}
use Rattle.ints.proofs.Lent.{length-written}
use Rattle.position.specs.Board.{checkers}
use Rattle.rules.specs.Ends.{switched_ends_of}
use Rattle.moves.specs.Answers.{CanPlay, play_refusal, ends_count}
use Rattle.moves.proofs.Entries.{count-is, may_play, play-refused}
use Rattle.end_number.specs.Number.{place}
use Rattle.std.proofs.Common.{Some, Err, rules}
use Rattle.end_number.specs.Slots.{FirstHeld}
use Rattle.end_number.proofs.Search.{Window, window-past, window-found, number-refused, number-some, number-none}
use Rattle.end_number.proofs.end_number.Goals as goal
use Rattle.end_number.proofs.end_number.Goals.{In_ok-check_play, After-fill, After-slot_of, In_default}

-- past the refusals a play can be asked
module _ (c : In_ok-check_play) where
  ok : play_refusal checkers c.args.b c.args.die1 c.args.die2 ≡ 0
  ok = sym (may_play c.check_play.ensures c.in_ok-check_play.was).is

  can : CanPlay checkers c.args.b c.args.die1 c.args.die2
  can = (may_play c.check_play.ensures c.in_ok-check_play.was).ok refl

-- what the generator counted
ends : (c : After-fill) → c.fill.result ≡ ends_count c.args.b c.args.die1 c.args.die2
ends c =
    let a = c.args in
    let n = c.fill.ensures.number in
    omega (arith, n, count-is a.b a.die1 a.die2)

-- the window that the slots make
window : (c : After-slot_of) → c.fill.result ≡ ends_count c.args.b c.args.die1 c.args.die2
    → Window c.args.b c.args.die1 c.args.die2 c.args.end c.fill.new.out c.loop-i.from c.min-shown.result
window c n =
    let l = c.loop-i in
    record {
      none_before = l.invariant.2;
      few = omega arith;
      within = omega (arith, n, l.invariant.1);
      out = l.slots;
      size = l.invariant.0;
      filled = c.fill.ensures.lent;
    }

-- where no slot holds the end, its number is past them
passed : (c : In_default) → CanPlay checkers c.args.b c.args.die1 c.args.die2 → Window c.args.b c.args.die1 c.args.die2 c.args.end c.fill.new.out c.loop-i.from c.min-shown.result
    → c.loop-i.from + c.min-shown.result ≤ place c.args.end (switched_ends_of c.args.b c.args.die1 c.args.die2)
passed c p w =
    let a = c.args in
    window-past checkers (omega arith) a.b a.die1 a.die2 p a.end c.fill.new.out c.loop-i.from c.min-shown.result w (rw c.in_default.is at c.slot_of.ensures)

-- the slots that the generator leaves
sized : (c : After-fill) → length c.fill.new.out ≡ 832
sized c = let l = c.loop-i in ap length c.fill.ensures.lent ∙ length-written 26 l.slots l.from 0 _ ∙ l.invariant.0

pub returns-in_err-check_play : goal.returns-in_err-check_play
returns-in_err-check_play c =
    let a = c.args in
    let why = c.in_err-check_play.field-0.0 in
    let e : c.from_residual.result ≡ Err why = search rules in
    let n = play-refused c.check_play.ensures c.in_err-check_play.was in
    ap told e ∙ ap (λ (k : ℕ). refused k 0) n ∙ number-refused checkers a.b a.die1 a.die2 a.end (omega (arith, n, number-pos why))

pub overflow_sub-left : goal.overflow_sub-left
overflow_sub-left c = omega (arith, ends (goal.at.overflow_sub-left c).After-fill, c.loop-i.invariant.1)

pub returns-in-Some : goal.returns-in-Some
returns-in-Some c =
    let e = (goal.at.returns-in-Some c).In_ok-check_play in
    let a = c.args in
    let w = window (goal.at.returns-in-Some c).After-slot_of (ends (goal.at.returns-in-Some c).After-fill) in
    let f : FirstHeld c.fill.new.out c.min-shown.result a.end (Some c.in-Some.i) = rw c.in-Some.is at c.slot_of.ensures in
    number-some checkers a.b a.die1 a.die2 a.end (ok e) _
    (window-found checkers (omega arith) a.b a.die1 a.die2 (can e) a.end c.fill.new.out c.loop-i.from c.min-shown.result w c.in-Some.i f)
    (omega (arith, w.within, f.0))

pub returns-then-left-le-SLOTS : goal.returns-then-left-le-SLOTS
returns-then-left-le-SLOTS c =
    let e = (goal.at.returns-then-left-le-SLOTS c).In_ok-check_play in
    let n = ends (goal.at.returns-then-left-le-SLOTS c).After-fill in
    let w = window (goal.at.returns-then-left-le-SLOTS c).After-slot_of n in
    let a = c.args in
    number-none checkers a.b a.die1 a.die2 a.end (ok e) (omega (arith, passed (goal.at.returns-then-left-le-SLOTS c).In_default (can e) w, n))

pub loop-i-smaller : goal.loop-i-smaller
loop-i-smaller c = omega (arith, ends (goal.at.loop-i-smaller c).After-fill, c.if-left-le-SLOTS.false)

pub loop-i-preserved : goal.loop-i-preserved
loop-i-preserved c =
    let e = (goal.at.loop-i-preserved c).In_ok-check_play in
    let f = (goal.at.loop-i-preserved c).After-fill in
    let n = ends f in
    let w = window (goal.at.loop-i-preserved c).After-slot_of n in
    (sized f, omega (arith, n, c.if-left-le-SLOTS.false), omega (arith, passed (goal.at.loop-i-preserved c).In_default (can e) w, n, c.if-left-le-SLOTS.false))
