-- What is told of the turns of an accepted card: each can be played, and the board after it has a result or phase.
-- Assumes nothing.
use mathlib.Core.Path.{◌≡◌, refl, sym, ap, ◌∙◌}
use mathlib.Core.List.{List}
use Prim.Native.Nat.{ℕ, ◌+◌, ◌≤◌, ◌<◌}
use native.Mathlib.Omega.{arith}
use borrow.Author.Tests.{lt-ltb, le-ltb, ne_eqb}
use lib.IntN.{ℤ}
use lib.ListN.{length, get_or, drop}
use Rattle.std.proofs.Common.{Result, Ok, Err, IsOk}
use Rattle.ints.specs.Answer.{value, carried}
use Rattle.ints.specs.Bits.{Bytes}
use Rattle.ints.specs.Refusals.{told}
use Rattle.ints.specs.declared.refusal.Refusal.{Refusal}
use Rattle.ints.proofs.Refusals.{told-apart}
use Rattle.dice.proofs.TwoDice.{die-test}
use Rattle.position.specs.Board.{checkers, Accepted, x_all, o_all, refusal_of}
use Rattle.position.specs.Answers.{board_answer, board_told, phase_number, phase_told}
use Rattle.position.specs.declared.phase.GamePhase.{GamePhase}
use Rattle.position.specs.Phase.{phase_of, phase_answer}
use Rattle.position.proofs.Unique.{board_told-apart}
use Rattle.position.proofs.Boards.{accepted-unrefused}
use Rattle.position.proofs.SideSwitch.{switched-x_all}
use Rattle.rules.proofs.Accepted.{end-o_all}
use Rattle.moves.specs.Answers.{play_refusal, ends_count, count_answer, end_refusal, end_answer}
use Rattle.key.specs.Key.{board_of, board_of_key_answer}
use Rattle.card.specs.Game.{turns_most}
use Rattle.card.specs.Read.{larger, smaller, end_number, start_key, turn_at, turn_refusal, after_turn, board_after, read_answer}
use Rattle.card.proofs.Turns.{Fine, not-finished, unrefused-fine, larger-is-die, smaller-is-die, next-accepted, turn_of, told-roll, told-legal, told-after}
use Rattle.card.proofs.TurnRead.{playable}
use Rattle.card.proofs.Starts.{Begun, unrefused-begun, begun-accepted, begun-unfinished}
use Rattle.card.proofs.Refusals.{EndsAfter, read-exactly}
use Rattle.card_text.specs.declared.Turn.{Turn}
use Rattle.card_text.specs.Turns.{HasPhase, ToldTurn}

-- ---- the number of result and phase

module _ {b : List ℤ} (h : HasPhase b) (r : Result GamePhase Refusal) (e : phase_told r ≡ phase_answer checkers b) where
  told-phase : phase_told r ≡ value (phase_of checkers b)
  unfolding phase_answer
  told-phase =
      e
      ∙ rw (
        le-ltb 0 (refusal_of checkers b) (omega (arith, accepted-unrefused checkers b h.accepted)),
        ne_eqb (x_all b + o_all b) 0 (λ z. omega (arith, h.some)),
      )

  pub phase-ok : IsOk r
  phase-ok = by_phase r told-phase
    where
      by_phase : (s : Result GamePhase Refusal) → phase_told s ≡ value (phase_of checkers b) → IsOk s
      by_phase (Ok p) f = refl
      by_phase (Err why) f = cc

  pub phase-is : {p : GamePhase} → r ≡ Ok p → phase_number p ≡ phase_of checkers b
  phase-is q = ap carried (sym (ap phase_told q) ∙ told-phase)

-- ---- a turn

pub whole_record : (b : List ℤ) (r : List ℕ) → turn_refusal b r ≡ 0 → 5 ≤ length r
whole_record b r u = (unrefused-fine b r u).whole

module _ {b : List ℤ} (a : Accepted checkers b) (r : List ℕ) (bytes : Bytes r) (u : turn_refusal b r ≡ 0) where
  fine : Fine b r
  fine = unrefused-fine b r u

  pub can-play : play_refusal checkers b (larger r) (smaller r) ≡ 0
  can-play =
      playable checkers b a (not-finished b fine.unfinished) (larger r) (smaller r)
      (die-test (larger r) (larger-is-die (told-roll a r bytes fine)))
      (die-test (smaller r) (smaller-is-die (told-roll a r bytes fine)))

  pub counted : {c : Result ℕ Refusal} → told c ≡ count_answer checkers b (larger r) (smaller r) → c ≡ Ok (ends_count b (larger r) (smaller r))
  unfolding count_answer
  counted {c} e =
      told-apart c (Ok (ends_count b (larger r) (smaller r))) (e ∙ rw (le-ltb 0 (play_refusal checkers b (larger r) (smaller r)) (omega (arith, can-play))))

  pub ended : {k : ℕ} {c : Result (List ℤ) Refusal} → k ≡ end_number r → board_told c ≡ end_answer checkers b (larger r) (smaller r) k
      → c ≡ Ok (after_turn b r)
  unfolding end_answer board_answer end_refusal after_turn
  ended {k} {c} n e =
      board_told-apart c (Ok (after_turn b r))
      (e ∙ rw (
        n,
        le-ltb 0 (play_refusal checkers b (larger r) (smaller r)) (omega (arith, can-play)),
        lt-ltb (end_number r) (ends_count b (larger r) (smaller r)) fine.known,
      ))

  after-phase : HasPhase (after_turn b r)
  after-phase =
      let roll = told-roll a r bytes fine in
      let legal = told-legal a r bytes fine in
      let t = turn_of b r in
      rw (told-after a r bytes fine) (record {
        accepted = next-accepted a t roll legal;
        some = omega (
          arith,
          fine.unfinished.o,
          switched-x_all t.stops,
          end-o_all checkers b (larger r) (smaller r) t.stops a legal,
        );
      })

  pub turn-told : (t : Turn) → t.dice ≡ get_or r 2 0 → t.number ≡ end_number r → t.count ≡ ends_count b (larger r) (smaller r) → t.after ≡ after_turn b r
      → ToldTurn b r t
  turn-told t d n c q = record { dice = d; number = n; count = c; after = q; ok = rw q after-phase }

-- ---- a card

-- the start of an accepted card has a phase, and its turns are whole and can be played
module _ (card : List ℕ) (turns : ℕ) (e : read_answer checkers turns_most card ≡ value turns) where
  read : EndsAfter checkers turns_most card turns
  read = (read-exactly checkers turns_most card turns).0 e

  begun : Begun checkers card
  begun = unrefused-begun checkers card read.read.start

  pub start-phase : HasPhase (board_after card 0)
  unfolding board_after
  start-phase = record { accepted = begun-accepted card begun; some = omega (arith, (begun-unfinished card begun).x) }

  pub start-whole : 12 ≤ length card
  start-whole = begun.whole

  pub decoded : {k : List ℕ} {r : Result (List ℤ) Refusal} → k ≡ start_key card → board_told r ≡ board_of_key_answer checkers k → r ≡ Ok (board_after card 0)
  unfolding board_after board_of_key_answer board_answer
  decoded {r = r} q f = board_told-apart r (Ok (board_of (start_key card))) (f ∙ rw (q, begun.key))

  pub turn-fine : (k : ℕ) → k < turns → (turn_at k < length card) × (turn_refusal (board_after card k) (drop (turn_at k) card) ≡ 0)
  turn-fine k h = read.read.turns k h

  pub few-turns : turns ≤ turns_most
  few-turns = read.few
