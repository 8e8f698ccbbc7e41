-- The reader, one record at a time: which facts make it end, refuse or go on, and that one of them always holds. Assumes nothing.
use mathlib.Core.Path.{◌≡◌, refl, sym}
use mathlib.Core.Bool.{Bool, true, false}
use mathlib.Core.List.{List}
use Prim.Native.Nat.{ℕ, zero, suc, ◌+◌, ◌≤◌, ◌<◌}
use native.Mathlib.Omega.{arith}
use lib.Dec.{ltb}
use lib.ListN.{length, drop}
use lib.Seq.{drop-drop}
use borrow.Author.Tests.{lt-ltb, le-ltb, ltb-true, ltb-false}
use Rattle.ints.specs.Answer.{Answer, value, refused}
use Rattle.card.specs.Read.{start_record_refusal, turn_at, turn_refusal, board_after, read_from, read_answer}

-- a refusal is no value
pub no_value : {X : Type 0} {number at t : ℕ} → refused number at ≡ value t → X
no_value {X} {number} {at} {t} e = let z : ◌≡◌ {A = ℕ} 0 1 = cc in absurd (omega arith)

-- where the next record begins
pub next-record : (card : List ℕ) (k : ℕ) → drop (turn_at (suc k)) card ≡ drop 5 (drop (turn_at k) card)
next-record card k = let e : turn_at (suc k) ≡ turn_at k + 5 = omega arith in rw e (sym (drop-drop 5 (turn_at k) card))

-- the refusal of turn k + 1 of a card
abbrev pub refusal_at : List ℕ → ℕ → ℕ
refusal_at card k = turn_refusal (board_after card k) (drop (turn_at k) card)

-- ---- which facts make each step

pub read-end : (left : ℕ) (card : List ℕ) (k : ℕ) → length card ≤ turn_at k → read_from left card k ≡ value k
unfolding read_from
read-end zero card k h = rw (le-ltb (turn_at k) (length card) h)
read-end (suc left) card k h = rw (le-ltb (turn_at k) (length card) h)

pub read-over : (card : List ℕ) (k : ℕ) → turn_at k < length card → read_from 0 card k ≡ refused 22 (turn_at k)
unfolding read_from
read-over card k h = rw (lt-ltb (turn_at k) (length card) h)

module _ (left : ℕ) (card : List ℕ) (k : ℕ) (h : turn_at k < length card) where
  pub read-on : refusal_at card k ≡ 0 → read_from (suc left) card k ≡ read_from left card (suc k)
  unfolding read_from
  read-on e = rw (lt-ltb (turn_at k) (length card) h, e)

  pub read-refused : 0 < refusal_at card k → read_from (suc left) card k ≡ refused (refusal_at card k) (turn_at k)
  unfolding read_from
  read-refused l = rw (lt-ltb (turn_at k) (length card) h, lt-ltb 0 (refusal_at card k) l)

module _ (n m : ℕ) (card : List ℕ) where
  pub read-begins : start_record_refusal n card ≡ 0 → read_answer n m card ≡ read_from m card 0
  unfolding read_answer
  read-begins e = rw e

  pub read-unbegun : 0 < start_record_refusal n card → read_answer n m card ≡ refused (start_record_refusal n card) 0
  unfolding read_answer
  read-unbegun h = rw (lt-ltb 0 (start_record_refusal n card) h)

-- ---- one of them always holds

-- the steps that a reading from turn k on can take: `answer` is what it answers, and `after` what it would answer from turn k + 1 on
pub data Step (card : List ℕ) (k : ℕ) (answer after : Answer) : Type 0 where
  ends : length card ≤ turn_at k → answer ≡ value k → Step card k answer after
  refuses : turn_at k < length card → 0 < refusal_at card k → answer ≡ refused (refusal_at card k) (turn_at k) → Step card k answer after
  goes : turn_at k < length card → refusal_at card k ≡ 0 → answer ≡ after → Step card k answer after

pub read_step : (left : ℕ) (card : List ℕ) (k : ℕ) → Step card k (read_from (suc left) card k) (read_from left card (suc k))
read_step left card k = go (ltb (turn_at k) (length card)) (ltb 0 (refusal_at card k)) refl refl
  where
    go : (more bad : Bool) → ltb (turn_at k) (length card) ≡ more → ltb 0 (refusal_at card k) ≡ bad
        → Step card k (read_from (suc left) card k) (read_from left card (suc k))
    go false bad e f = let h = ltb-false (turn_at k) (length card) e in ends h (read-end (suc left) card k h)
    go true true e f =
        let h = ltb-true (turn_at k) (length card) e in
        let r = ltb-true 0 (refusal_at card k) f in
        refuses h r (read-refused left card k h r)
    go true false e f =
        let h = ltb-true (turn_at k) (length card) e in
        let z = ltb-false 0 (refusal_at card k) f in
        let r : refusal_at card k ≡ 0 = omega arith in
        goes h r (read-on left card k h r)

-- the same where no more turns are allowed
pub data LastStep (card : List ℕ) (k : ℕ) (answer : Answer) : Type 0 where
  ends : length card ≤ turn_at k → answer ≡ value k → LastStep card k answer
  over : turn_at k < length card → answer ≡ refused 22 (turn_at k) → LastStep card k answer

pub last_step : (card : List ℕ) (k : ℕ) → LastStep card k (read_from 0 card k)
last_step card k = go (ltb (turn_at k) (length card)) refl
  where
    go : (more : Bool) → ltb (turn_at k) (length card) ≡ more → LastStep card k (read_from 0 card k)
    go false e = let h = ltb-false (turn_at k) (length card) e in LastStep.ends h (read-end 0 card k h)
    go true e = let h = ltb-true (turn_at k) (length card) e in over h (read-over card k h)

-- the same of the start record
pub data FirstStep (n : ℕ) (card : List ℕ) (answer after : Answer) : Type 0 where
  refuses : 0 < start_record_refusal n card → answer ≡ refused (start_record_refusal n card) 0 → FirstStep n card answer after
  begins : start_record_refusal n card ≡ 0 → answer ≡ after → FirstStep n card answer after

pub first_step : (n m : ℕ) (card : List ℕ) → FirstStep n card (read_answer n m card) (read_from m card 0)
first_step n m card = go (ltb 0 (start_record_refusal n card)) refl
  where
    go : (bad : Bool) → ltb 0 (start_record_refusal n card) ≡ bad → FirstStep n card (read_answer n m card) (read_from m card 0)
    go true e = let h = ltb-true 0 (start_record_refusal n card) e in FirstStep.refuses h (read-unbegun n m card h)
    go false e =
        let z = ltb-false 0 (start_record_refusal n card) e in
        let r : start_record_refusal n card ≡ 0 = omega arith in
        begins r (read-begins n m card r)
