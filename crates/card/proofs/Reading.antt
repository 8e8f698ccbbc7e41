-- The card of a game is read: the reader answers its number of turns, and gives back every position. Stated over the number n of checkers a
-- side, at most fifteen, and the number m of turns. Assumes nothing.
use mathlib.Core.Path.{◌≡◌, sym, ap, ◌∙◌}
use mathlib.Core.List.{List, [], ◌∷◌, ◌++◌}
use Prim.Native.Nat.{ℕ, zero, suc, ◌+◌, ◌≤◌, ◌<◌}
use native.Mathlib.Omega.{arith}
use lib.IntN.{ℤ}
use lib.ListN.{length, get_or, drop, length-drop}
use borrow.Author.Tests.{lt-ltb, le-ltb}
use Rattle.ints.specs.Answer.{value}
use Rattle.position.specs.Board.{Accepted}
use Rattle.card.specs.Game.{Turn, Played, Game, next, positions}
use Rattle.card.specs.Card.{record_of, records_of, card_of}
use Rattle.card.specs.Read.{turn_at, turn_refusal, board_after, read_from, read_answer}
use Rattle.card.specs.Answers.{no_position, position_answer}
use Rattle.card.proofs.Records.{next-record, read-end, read-on, read-begins}
use Rattle.card.proofs.Starts.{start-read, start-begun, begun-unrefused, after-start}
use Rattle.card.proofs.Turns.{fine-unrefused, record-fine, after-record, next-accepted}

-- ---- turns played from a board, of which the records stand in the card

-- after k turns the card is at the board b, and the records of the turns ts stand next
record Stands (n : ℕ) (card : List ℕ) (k : ℕ) (b : List ℤ) (ts : List Turn) : Type 0 where
  accepted : Accepted n b
  board : board_after card k ≡ b
  records : drop (turn_at k) card ≡ records_of b ts
  played : Played b ts

module _ {n : ℕ} {card : List ℕ} where
  ended : {k : ℕ} {b : List ℤ} → Stands n card k b [] → length card ≤ turn_at k
  ended {k} s = omega (arith, ap length s.records, length-drop (turn_at k) card)

  module _ {k : ℕ} {b : List ℤ} {t : Turn} {ts : List Turn} (s : Stands n card k b (t ∷ ts)) where
    more : turn_at k < length card
    more = omega (arith, ap length s.records, length-drop (turn_at k) card)

    unrefused : turn_refusal (board_after card k) (drop (turn_at k) card) ≡ 0
    unrefused =
        rw (s.board, s.records)
        (fine-unrefused b (record_of b t ++ records_of (next t) ts)
        (record-fine s.accepted t s.played.1 s.played.2 (records_of (next t) ts) s.played.0))

    on : Stands n card (suc k) (next t) ts
    unfolding board_after
    on = record {
      accepted = next-accepted s.accepted t s.played.1 s.played.2;
      board = rw (s.board, s.records) (after-record s.accepted t s.played.1 s.played.2 (records_of (next t) ts));
      records = next-record card k ∙ ap (drop 5) s.records;
      played = s.played.3;
    }

  stands_read : (ts : List Turn) (left k : ℕ) {b : List ℤ} → Stands n card k b ts → length ts ≤ left → read_from left card k ≡ value (k + length ts)
  stands_read [] left k s h = let e : k + 0 ≡ k = omega arith in rw e (read-end left card k (ended s))
  stands_read (t ∷ ts) zero k s h = absurd (omega arith)
  stands_read (t ∷ ts) (suc left) k s h =
      let e : k + suc (length ts) ≡ suc k + length ts = omega arith in
      read-on left card k (more s) (unrefused s)
      ∙ stands_read ts left (suc k) (on s) (omega arith)
      ∙ ap value (sym e)

  stands_at : (ts : List Turn) (k : ℕ) {b : List ℤ} → Stands n card k b ts → (j : ℕ) → j ≤ length ts → board_after card (k + j) ≡ get_or (positions b ts) j []
  stands_at [] k s zero h = let e : k + 0 ≡ k = omega arith in rw e s.board
  stands_at [] k s (suc j) h = absurd (omega arith)
  stands_at (t ∷ ts) k s zero h = let e : k + 0 ≡ k = omega arith in rw e s.board
  stands_at (t ∷ ts) k s (suc j) h =
      let e : k + suc j ≡ suc k + j = omega arith in
      rw e (stands_at ts (suc k) (on s) j (omega arith))

-- ---- the card of a game

module _ {n m : ℕ} (few : n ≤ 15) {start : List ℤ} {turns : List Turn} (g : Game n m start turns) where
  at-start : Stands n (card_of start turns) 0 start turns
  unfolding board_after
  at-start = record {
    accepted = g.accepted;
    board = start-read few g.accepted (records_of start turns);
    records = after-start start (records_of start turns);
    played = g.played;
  }

  -- it is read, with its number of turns
  pub card-read : read_answer n m (card_of start turns) ≡ value (length turns)
  card-read =
      let e : 0 + length turns ≡ length turns = omega arith in
      read-begins n m (card_of start turns)
      (begun-unrefused n (card_of start turns) (start-begun few g.accepted (records_of start turns) g.unfinished))
      ∙ stands_read turns m 0 at-start g.few
      ∙ ap value e

  -- and each position is given back
  pub card-positions : (k : ℕ) → k ≤ length turns → board_after (card_of start turns) k ≡ get_or (positions start turns) k []
  card-positions k h = let e : 0 + k ≡ k = omega arith in rw e at (stands_at turns 0 at-start k h)

  pub position-given : (k : ℕ) → k ≤ length turns
      → position_answer n m (card_of start turns) k ≡ record { refused = 0; «at» = 0; board = get_or (positions start turns) k [] }
  unfolding position_answer
  position-given k h = rw (card-read, le-ltb (length turns) k h, card-positions k h)

  pub position_past : (k : ℕ) → length turns < k → position_answer n m (card_of start turns) k ≡ no_position 36 0
  unfolding position_answer
  position_past k h = rw (card-read, lt-ltb (length turns) k h)
