-- The start record: an accepted, unfinished start's record is read as that board, and bytes that are read as a start are the record of
-- one. Stated over the number n of checkers a side, at most fifteen. Assumes nothing.
use mathlib.Core.Path.{◌≡◌, refl, sym, ap, ◌∙◌}
use mathlib.Core.Bool.{Bool, true, false, cond, ◌&&◌, ◌||◌}
use mathlib.Core.List.{List, [], ◌∷◌, ◌++◌}
use Prim.Native.Nat.{ℕ, ◌+◌, ◌≤◌}
use native.Mathlib.Omega.{arith}
use lib.Dec.{ltb, eqb}
use lib.IntN.{ℤ}
use lib.ListN.{length, get_or, drop, length-append, length-drop, take-append-drop}
use lib.Seq.{take_at, drop_at, length-take-le, drop-drop}
use borrow.Author.Tests.{ltb-true, ltb-false, le-ltb, eqb-true, eqb-false, eq-eqb}
use Rattle.ints.specs.Bits.{Bytes}
use Rattle.ints.proofs.Bits.{length-bytes}
use Rattle.position.specs.Board.{Accepted, x_all, o_all, refusal_of, start_refusal}
use Rattle.position.proofs.Boards.{accepted-unrefused, started-0}
use Rattle.key.specs.Key.{key_of, key_bits, board_of, key_refusal}
use Rattle.key.proofs.ReadBack.{written-accepted, read-written}
use Rattle.key.proofs.AcceptedKeys.{read-accepted, written_read}
use Rattle.card.specs.Game.{Unfinished}
use Rattle.card.specs.Card.{start_record}
use Rattle.card.specs.Read.{start_key, start_record_refusal}
use Rattle.card.proofs.Bytes.{bytes_take, bytes_drop}

-- ---- the tests of a start record as facts

-- what holds of a card that has a start
pub record Begun (n : ℕ) (card : List ℕ) : Type 0 where
  pub whole : 12 ≤ length card
  pub first : get_or card 0 0 ≡ 0x53
  pub second : get_or card 1 0 ≡ 0x54
  pub key : key_refusal n (start_key card) ≡ 0
  pub start : start_refusal n (board_of (start_key card)) ≡ 0

pub begun-unrefused : (n : ℕ) (card : List ℕ) → Begun n card → start_record_refusal n card ≡ 0
unfolding start_record_refusal
begun-unrefused n card s =
    rw (
      le-ltb (length card) 12 s.whole,
      eq-eqb (get_or card 0 0) 0x53 s.first,
      eq-eqb (get_or card 1 0) 0x54 s.second,
      le-ltb 0 (key_refusal n (start_key card)) (omega (arith, s.key)),
      s.start,
    )

pub unrefused-begun : (n : ℕ) (card : List ℕ) → start_record_refusal n card ≡ 0 → Begun n card
unfolding start_record_refusal
unrefused-begun n card =
    go (ltb (length card) 12) (eqb (get_or card 0 0) 0x53) (eqb (get_or card 1 0) 0x54) (ltb 0 (key_refusal n (start_key card))) refl refl refl refl
  where
    go : (short m1 m2 bad : Bool) → ltb (length card) 12 ≡ short → eqb (get_or card 0 0) 0x53 ≡ m1 → eqb (get_or card 1 0) 0x54 ≡ m2
        → ltb 0 (key_refusal n (start_key card)) ≡ bad
        → cond short 20 (cond (m1 && m2) (cond bad (key_refusal n (start_key card)) (start_refusal n (board_of (start_key card)))) 21) ≡ 0 → Begun n card
    go true m1 m2 bad e1 e2 e3 e4 e = absurd (omega arith)
    go false false m2 bad e1 e2 e3 e4 e = absurd (omega arith)
    go false true false bad e1 e2 e3 e4 e = absurd (omega arith)
    go false true true true e1 e2 e3 e4 e = absurd (omega (arith, ltb-true 0 (key_refusal n (start_key card)) e4))
    go false true true false e1 e2 e3 e4 e = record {
      whole = ltb-false (length card) 12 e1;
      first = eqb-true (get_or card 0 0) 0x53 e2;
      second = eqb-true (get_or card 1 0) 0x54 e3;
      key = let h = ltb-false 0 (key_refusal n (start_key card)) e4 in omega arith;
      start = e;
    }

-- ---- a board from which a card starts

pub start-unrefused : (n : ℕ) (b : List ℤ) → Accepted n b → Unfinished b → start_refusal n b ≡ 0
start-unrefused n b a u = sym (started-0 n b a u.x u.o).is

pub unrefused-start : (n : ℕ) (b : List ℤ) → start_refusal n b ≡ 0 → (refusal_of n b ≡ 0) × Unfinished b
unfolding start_refusal
unrefused-start n b =
    go (ltb 0 (refusal_of n b)) (eqb (x_all b + o_all b) 0) (eqb (x_all b) 0) (eqb (o_all b) 0) refl refl refl
  where
    go : (bad none x o : Bool) → ltb 0 (refusal_of n b) ≡ bad → eqb (x_all b) 0 ≡ x → eqb (o_all b) 0 ≡ o
        → cond bad (refusal_of n b) (cond none 6 (cond (x || o) 5 0)) ≡ 0 → (refusal_of n b ≡ 0) × Unfinished b
    go true none x o e1 e2 e3 e = let h = ltb-true 0 (refusal_of n b) e1 in absurd (omega arith)
    go false true x o e1 e2 e3 e = absurd (omega arith)
    go false false true o e1 e2 e3 e = absurd (omega arith)
    go false false false true e1 e2 e3 e = absurd (omega arith)
    go false false false false e1 e2 e3 e =
        let h = ltb-false 0 (refusal_of n b) e1 in
        let x = eqb-false (x_all b) 0 e2 in
        let o = eqb-false (o_all b) 0 e3 in
        (omega arith, record { x = omega arith; o = omega arith })

-- of the board of a key that is read, 1 to 4 are no matter: 6, then 5
pub start-of-key : (n : ℕ) (k : List ℕ) → key_refusal n k ≡ 0
    → start_refusal n (board_of k) ≡ cond (eqb (x_all (board_of k) + o_all (board_of k)) 0) 6 (cond (eqb (x_all (board_of k)) 0 || eqb (o_all (board_of k)) 0) 5 0)
unfolding start_refusal
start-of-key n k e = rw (accepted-unrefused n (board_of k) (read-accepted n k e))

-- ---- a start's record is read as that board

pub length-key : (b : List ℤ) → length (key_of b) ≡ 10
unfolding key_of
length-key b = length-bytes 10 (key_bits b)

pub length-start : (b : List ℤ) → length (start_record b) ≡ 12
length-start b = omega (arith, length-key b)

pub key-of-start : (b : List ℤ) (rest : List ℕ) → start_key (start_record b ++ rest) ≡ key_of b
key-of-start b rest = take_at (key_of b) rest 10 (length-key b)

pub after-start : (b : List ℤ) (rest : List ℕ) → drop 12 (start_record b ++ rest) ≡ rest
after-start b rest = drop_at (start_record b) rest 12 (length-start b)

module _ {n : ℕ} (few : n ≤ 15) {b : List ℤ} (a : Accepted n b) (rest : List ℕ) where
  pub start-read : board_of (start_key (start_record b ++ rest)) ≡ b
  start-read = ap board_of (key-of-start b rest) ∙ read-written a few

  pub start-begun : Unfinished b → Begun n (start_record b ++ rest)
  start-begun u = record {
    whole = omega (arith, length-append (start_record b) rest, length-key b);
    first = refl;
    second = refl;
    key = ap (key_refusal n) (key-of-start b rest) ∙ written-accepted a few;
    start = ap (start_refusal n) start-read ∙ start-unrefused n b a u;
  }

-- ---- bytes that are read as a start are the record of one

two : (l : List ℕ) → 2 ≤ length l → l ≡ get_or l 0 0 ∷ get_or l 1 0 ∷ drop 2 l
two [] h = absurd (omega arith)
two (x ∷ []) h = absurd (omega arith)
two (x ∷ y ∷ l) h = refl

module _ {n : ℕ} (card : List ℕ) (s : Begun n card) where
  pub begun-accepted : Accepted n (board_of (start_key card))
  begun-accepted = read-accepted n (start_key card) s.key

  pub begun-unfinished : Unfinished (board_of (start_key card))
  begun-unfinished = (unrefused-start n (board_of (start_key card)) s.start).1

  module _ (few : n ≤ 15) (bytes : Bytes card) where
    pub begun-record : card ≡ start_record (board_of (start_key card)) ++ drop 12 card
    begun-record =
        let ten : length (start_key card) ≡ 10 = length-take-le 10 (drop 2 card) (omega (arith, s.whole, length-drop 2 card)) in
        let key = written_read n (start_key card) s.key few ten (bytes_take 10 (drop 2 card) (bytes_drop 2 card bytes)) in
        let split = take-append-drop 10 (drop 2 card) in
        let rest = drop-drop 10 2 card in
        two card (omega (arith, s.whole)) ∙ cc (s.first, s.second)
