-- A longer card is read as its prefix is, as far as that goes, so a reader may stop at any record and go on later. Assumes nothing.
use mathlib.Core.Path.{◌≡◌, sym, ap, ap₂, ◌∙◌}
use mathlib.Core.List.{List, ◌++◌}
use Prim.Native.Nat.{ℕ, zero, suc, ◌+◌, ◌-◌, ◌≤◌, ◌<◌}
use native.Mathlib.Omega.{arith}
use lib.IntN.{ℤ}
use lib.ListN.{length, get_or, take, drop, length-append, length-drop, get_or-append}
use lib.Seq.{take-append-le, drop-append-le}
use borrow.Author.Tests.{lt-ltb, le-ltb}
use Rattle.ints.specs.Answer.{Answer, value, refused}
use Rattle.key.specs.Key.{board_of}
use Rattle.card.specs.Game.{Turn, Game}
use Rattle.card.specs.Card.{card_of}
use Rattle.card.specs.Read.{start_key, start_record_refusal, turn_at, turn_refusal, after_turn, board_after, read_from, read_answer}
use Rattle.card.proofs.Records.{refusal_at, read-over}
use Rattle.card.proofs.Reading.{card-read}
use Rattle.card.proofs.Longer.{length-card}
use Rattle.card.proofs.Refusals.{ReadTo, in_start, in-turn, too_many, Tells, answer-tells, reads_on, read-exactly}

-- ---- a record is judged by its own bytes

module _ (b : List ℤ) (r more : List ℕ) (h : 5 ≤ length r) where
  byte : (i : ℕ) → i < 5 → get_or (r ++ more) i 0 ≡ get_or r i 0
  byte i l = get_or-append r more 0 i (omega arith)

  pub after-own : after_turn b (r ++ more) ≡ after_turn b r
  unfolding after_turn
  after-own = rw (byte 2 (omega arith), byte 3 (omega arith), byte 4 (omega arith))

  pub refusal-own : turn_refusal b (r ++ more) ≡ turn_refusal b r
  unfolding turn_refusal
  refusal-own =
      rw (
        le-ltb (length (r ++ more)) 5 (omega (arith, length-append r more)),
        le-ltb (length r) 5 h,
        byte 0 (omega arith),
        byte 1 (omega arith),
        byte 2 (omega arith),
        byte 3 (omega arith),
        byte 4 (omega arith),
      )

module _ (c more : List ℕ) where
  start-own : 12 ≤ length c → start_key (c ++ more) ≡ start_key c
  start-own h =
      ap (take 10) (drop-append-le 2 c more (omega arith)) ∙ take-append-le 10 (drop 2 c) more (omega (arith, length-drop 2 c))

  pub start-refusal-own : (n : ℕ) → 12 ≤ length c → start_record_refusal n (c ++ more) ≡ start_record_refusal n c
  unfolding start_record_refusal
  start-refusal-own n h =
      rw (
        le-ltb (length (c ++ more)) 12 (omega (arith, length-append c more)),
        le-ltb (length c) 12 h,
        get_or-append c more 0 0 (omega arith),
        get_or-append c more 0 1 (omega arith),
        start-own h,
      )

  record-own : (k : ℕ) → turn_at k ≤ length c → drop (turn_at k) (c ++ more) ≡ drop (turn_at k) c ++ more
  record-own k h = drop-append-le (turn_at k) c more h

  -- positions up to the prefix's end are the prefix's
  pub board-own : (k : ℕ) → turn_at k ≤ length c → board_after (c ++ more) k ≡ board_after c k
  unfolding board_after
  board-own zero h = ap board_of (start-own (omega arith))
  board-own (suc k) h =
      ap₂ after_turn (board-own k (omega arith)) (record-own k (omega arith))
      ∙ after-own (board_after c k) (drop (turn_at k) c) more (omega (arith, length-drop (turn_at k) c))

  turn-refusal-own : (k : ℕ) → turn_at (suc k) ≤ length c → refusal_at (c ++ more) k ≡ refusal_at c k
  turn-refusal-own k h =
      ap₂ turn_refusal (board-own k (omega arith)) (record-own k (omega arith))
      ∙ refusal-own (board_after c k) (drop (turn_at k) c) more (omega (arith, length-drop (turn_at k) c))

  module _ (n k : ℕ) (h : turn_at k ≤ length c) where
    read-prefix : ReadTo n (c ++ more) k → ReadTo n c k
    read-prefix s = record {
      start = sym (start-refusal-own n (omega arith)) ∙ s.start;
      turns = λ j l. (omega arith, sym (turn-refusal-own j (omega arith)) ∙ (s.turns j l).1);
    }

    read-longer : ReadTo n c k → ReadTo n (c ++ more) k
    read-longer s = record {
      start = start-refusal-own n (omega arith) ∙ s.start;
      turns = λ j l. (omega (arith, length-append c more), turn-refusal-own j (omega arith) ∙ (s.turns j l).1);
    }

-- ---- the two readings

-- an answer that is no refusal before byte i
abbrev pub NotBefore : ℕ → Answer → Type 0
NotBefore i (value k) = Unit {0}
NotBefore i (refused r p) = i ≤ p

fewer : {n : ℕ} {card : List ℕ} (k t : ℕ) → k ≤ t → ReadTo n card t → ReadTo n card k
fewer k t h s = record { start = s.start; turns = λ j l. s.turns j (omega arith) }

module _ (n m : ℕ) (c more : List ℕ) (k : ℕ) (whole : length c ≡ turn_at k) where
  -- where the longer card is not refused before its prefix ends, the prefix is read, with its number of turns
  pub prefix : NotBefore (length c) (read_answer n m (c ++ more)) → read_answer n m c ≡ value k
  prefix = go (read_answer n m (c ++ more)) (answer-tells n m (c ++ more))
    where
      at-end : (t : ℕ) → ReadTo n (c ++ more) t → k ≤ t → t ≤ m → read_answer n m c ≡ value k
      at-end t s h l =
          (read-exactly n m c k).1 (record { read = read-prefix c more n k (omega arith) (fewer k t h s); few = omega arith; ended = omega arith })

      go : (a : Answer) → Tells n m (c ++ more) a → NotBefore (length c) a → read_answer n m c ≡ value k
      go (value t) s u = let e = s.ended in at-end t s.read (omega (arith, length-append c more)) s.few
      go (refused r p) (in_start e l q) u = absurd (omega arith)
      go (refused r p) (in-turn t s l h e z q) u = at-end t s (omega arith) (omega arith)
      go (refused r p) (too_many s h e q) u = at-end m s (omega arith) (omega arith)

  -- where the prefix is read, the reading of the longer card goes on after it
  pub reading-goes-on : read_answer n m c ≡ value k → read_answer n m (c ++ more) ≡ read_from (m - k) (c ++ more) k
  reading-goes-on e =
      let s = (read-exactly n m c k).0 e in
      reads_on n m (c ++ more) k (read-longer c more n k (omega arith) s.read) s.few

-- ---- a card of as many turns as are allowed is read, and anything after it is one turn too many

pub one-too-many : {n m : ℕ} → n ≤ 15 → {start : List ℤ} {turns : List Turn} → Game n m start turns → length turns ≡ m
    → (more : List ℕ) → 0 < length more → read_answer n m (card_of start turns ++ more) ≡ refused 22 (turn_at m)
one-too-many {n} {m} few {start} {turns} g full more some =
    let card = card_of start turns in
    let whole : length card ≡ turn_at m = length-card start turns ∙ ap turn_at full in
    let none_left : m - m ≡ 0 = omega arith in
    reading-goes-on n m card more m whole (card-read few g ∙ ap value full)
    ∙ ap (λ (left : ℕ). read_from left (card ++ more) m) none_left
    ∙ read-over (card ++ more) m (omega (arith, length-append card more))

-- bytes after one more than the most turns take change no answer, so a reader needs no more than these
module _ (n m : ℕ) (c more : List ℕ) (long : turn_at m < length c) where
  same_from : (left k : ℕ) → k + left ≡ m → read_from left (c ++ more) k ≡ read_from left c k
  unfolding read_from
  same_from zero k e =
      rw (lt-ltb (turn_at k) (length (c ++ more)) (omega (arith, length-append c more)), lt-ltb (turn_at k) (length c) (omega arith))
  same_from (suc left) k e =
      rw (
        lt-ltb (turn_at k) (length (c ++ more)) (omega (arith, length-append c more)),
        lt-ltb (turn_at k) (length c) (omega arith),
        turn-refusal-own c more k (omega arith),
        same_from left (suc k) (omega arith),
      )

  pub longer-same : read_answer n m (c ++ more) ≡ read_answer n m c
  unfolding read_answer
  longer-same = rw (start-refusal-own c more n (omega arith), same_from m 0 (omega arith))
