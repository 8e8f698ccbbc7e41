-- The reader accepts exactly the cards of games. Stated over the number n of checkers a side, at most fifteen, and the number m of turns.
-- Assumes nothing.
use mathlib.Core.Path.{◌≡◌, refl, sym, ap, ◌∙◌}
use mathlib.Core.List.{List, [], ◌∷◌, ◌++◌}
use mathlib.Core.Logic.{◌↔◌}
use Prim.Native.Nat.{ℕ, zero, suc, ◌+◌, ◌≤◌}
use native.Mathlib.Omega.{arith}
use lib.IntN.{ℤ}
use lib.ListN.{length, drop, drop_of_length-le}
use Rattle.ints.specs.Answer.{value}
use Rattle.ints.specs.Bits.{Bytes}
use Rattle.ints.proofs.Bits.{bytes-of}
use Rattle.position.specs.Board.{Accepted}
use Rattle.rules.specs.Plays.{LegalEnd}
use Rattle.rules.proofs.Bound.{at_most}
use Rattle.key.specs.Key.{key_of, key_bits, board_of}
use Rattle.card.specs.Game.{Roll, Turn, Played, Game, next}
use Rattle.card.specs.Card.{start_record, record_of, records_of, card_of}
use Rattle.card.specs.Read.{start_key, turn_at, after_turn, board_after, read_from, read_answer}
use Rattle.card.proofs.Bytes.{bytes-append, bytes_drop}
use Rattle.card.proofs.Records.{no_value, refusal_at, next-record, Step, ends, refuses, goes, read_step, LastStep, over, last_step, FirstStep, begins, first_step}
use Rattle.card.proofs.Starts.{unrefused-begun, begun-accepted, begun-unfinished, begun-record}
use Rattle.card.proofs.Turns.{Fine, unrefused-fine, turn_of, told-roll, told-legal, told-after, told-record, number-known, next-accepted}
use Rattle.card.proofs.Reading.{card-read}

-- turns from b of which the records stand in the card after k turns, and make t turns in all
record Told (card : List ℕ) (left k t : ℕ) (b : List ℤ) : Type 0 where
  turns : List Turn
  played : Played b turns
  records : drop (turn_at k) card ≡ records_of b turns
  count : k + length turns ≡ t
  few : length turns ≤ left

none_told : (card : List ℕ) (left k t : ℕ) (b : List ℤ) → length card ≤ turn_at k → k ≡ t → Told card left k t b
none_told card left k t b h e =
    record { turns = []; played = tt; records = drop_of_length-le card h; count = omega arith; few = omega arith }

module _ {n : ℕ} (card : List ℕ) (bytes : Bytes card) where
  -- a turn that is not refused, and those told after it
  one_told : (left k t : ℕ) (b : List ℤ) → board_after card k ≡ b → Accepted n b → refusal_at card k ≡ 0
      → ((c : List ℤ) → board_after card (suc k) ≡ c → Accepted n c → Told card left (suc k) t c) → Told card (suc left) k t b
  unfolding board_after
  one_told left k t b e a u on =
      let r = drop (turn_at k) card in
      let rb = bytes_drop (turn_at k) card bytes in
      let f : Fine b r = unrefused-fine b r (rw e at u) in
      let roll = told-roll a r rb f in
      let legal = told-legal a r rb f in
      let turn = turn_of b r in
      let more = on (next turn) (ap (λ (c : List ℤ). after_turn c r) e ∙ told-after a r rb f) (next-accepted a turn roll legal) in
      let c = more.count in
      let m = more.few in
      record {
        turns = turn ∷ more.turns;
        played = (f.unfinished, roll, legal, more.played);
        records = told-record a r rb f ∙ ap (λ (l : List ℕ). record_of b turn ++ l) (sym (next-record card k) ∙ more.records);
        count = omega arith;
        few = omega arith;
      }

  told : (left k t : ℕ) (b : List ℤ) → board_after card k ≡ b → Accepted n b → read_from left card k ≡ value t → Told card left k t b
  told zero k t b e a r = go (last_step card k)
    where
      go : LastStep card k (read_from 0 card k) → Told card 0 k t b
      go (LastStep.ends h q) = none_told card 0 k t b h (cc)
      go (over h q) = no_value (sym q ∙ r)
  told (suc left) k t b e a r = go (read_step left card k) (told left (suc k) t)
    where
      go : Step card k (read_from (suc left) card k) (read_from left card (suc k))
          → ((c : List ℤ) → board_after card (suc k) ≡ c → Accepted n c → read_from left card (suc k) ≡ value t → Told card left (suc k) t c)
          → Told card (suc left) k t b
      go (ends h q) ih = none_told card (suc left) k t b h (cc)
      go (refuses h l q) ih = no_value (sym q ∙ r)
      go (goes h u q) ih = one_told left k t b e a u (λ c f d. ih c f d (sym q ∙ r))

-- a card that is read, of t turns, is the card of a game of t turns
pub record CardOfGame (n m : ℕ) (card : List ℕ) (t : ℕ) : Type 0 where
  pub start : List ℤ
  pub turns : List Turn
  pub game : Game n m start turns
  pub count : length turns ≡ t
  pub card-is : card ≡ card_of start turns

pub accepts-games : (n m : ℕ) (card : List ℕ) (t : ℕ) → n ≤ 15 → Bytes card → read_answer n m card ≡ value t → CardOfGame n m card t
unfolding board_after
accepts-games n m card t few bytes r = go (first_step n m card)
  where
    go : FirstStep n card (read_answer n m card) (read_from m card 0) → CardOfGame n m card t
    go (FirstStep.refuses h q) = no_value (sym q ∙ r)
    go (begins e q) =
        let s = unrefused-begun n card e in
        let b = board_of (start_key card) in
        let w = told card bytes m 0 t b refl (begun-accepted card s) (sym q ∙ r) in
        let c = w.count in
        record {
          start = b;
          turns = w.turns;
          game = record { accepted = begun-accepted card s; unfinished = begun-unfinished card s; played = w.played; few = w.few };
          count = omega arith;
          card-is = begun-record card s few bytes ∙ ap (λ (l : List ℕ). start_record b ++ l) w.records;
        }

-- ---- the card of a game is bytes

-- an end's number is below 17,550, so it fits two
record-bytes : {n : ℕ} {b : List ℤ} → Accepted n b → (t : Turn) → Roll t.larger t.smaller → LegalEnd b t.larger t.smaller t.stops → Bytes (record_of b t)
record-bytes a t roll legal zero = omega arith
record-bytes a t roll legal (suc zero) = omega arith
record-bytes a t roll legal (suc (suc zero)) = omega arith
record-bytes a t roll legal (suc (suc (suc zero))) = omega arith
record-bytes {n} {b} a t roll legal (suc (suc (suc (suc zero)))) =
    omega (arith, number-known a t roll legal, at_most b t.larger t.smaller)
record-bytes a t roll legal (suc (suc (suc (suc (suc i))))) = omega arith

records-bytes : {n : ℕ} {b : List ℤ} → Accepted n b → (ts : List Turn) → Played b ts → Bytes (records_of b ts)
records-bytes {n} {b} a [] p i = omega arith
records-bytes {n} {b} a (t ∷ ts) p i =
    bytes-append (record_of b t) (records_of (next t) ts) (record-bytes a t p.1 p.2) (records-bytes {n = n} {b = next t} (next-accepted a t p.1 p.2) ts p.3) i

start-bytes : (b : List ℤ) → Bytes (start_record b)
unfolding key_of
start-bytes b zero = omega arith
start-bytes b (suc zero) = omega arith
start-bytes b (suc (suc i)) = bytes-of 10 (key_bits b) i

pub card-bytes : {n m : ℕ} {start : List ℤ} {turns : List Turn} → Game n m start turns → Bytes (card_of start turns)
card-bytes {n} {m} {start} {turns} g =
    bytes-append (start_record start) (records_of start turns) (start-bytes start) (records-bytes g.accepted turns g.played)

-- ---- so the reader accepts exactly the cards of games, with their numbers of turns

pub accepts-exactly-cards : (n m : ℕ) (card : List ℕ) (t : ℕ) → n ≤ 15 → (Bytes card × (read_answer n m card ≡ value t)) ↔ CardOfGame n m card t
accepts-exactly-cards n m card t few = (
  (λ r. accepts-games n m card t few r.0 r.1),
  λ c. (rw c.card-is (card-bytes c.game), ap (read_answer n m) c.card-is ∙ card-read few c.game ∙ ap value c.count),
)
