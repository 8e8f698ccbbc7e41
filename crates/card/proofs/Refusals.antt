-- The reader's answer is what the first record says that does not go on: a refusal is the first that holds, record by record, and a value is
-- the number of turns before the card's end. Assumes nothing.
use mathlib.Core.Path.{◌≡◌, refl, sym, ap, ap₂, subst, ◌∙◌}
use mathlib.Core.List.{List}
use mathlib.Core.Logic.{◌↔◌, ◌⊎◌, inl, inr}
use Prim.Native.Nat.{ℕ, zero, suc, ◌+◌, ◌-◌, ◌≤◌, ◌<◌}
use native.Mathlib.Omega.{arith}
use lib.ListN.{length}
use Rattle.ints.specs.Answer.{Answer, value, refused}
use Rattle.ints.proofs.Tests.{last}
use Rattle.card.specs.Read.{start_record_refusal, turn_at, read_from, read_answer}
use Rattle.card.proofs.Records.{refusal_at, read-end, read-over, read-on, read-refused, read-begins, read-unbegun, Step, ends, refuses, goes, read_step, LastStep, over, last_step, FirstStep, begins, first_step}

-- the start record and the first k turns of a card are there and not refused
pub record ReadTo (n : ℕ) (card : List ℕ) (k : ℕ) : Type 0 where
  pub start : start_record_refusal n card ≡ 0
  pub turns : (j : ℕ) → j < k → (turn_at j < length card) × (refusal_at card j ≡ 0)

-- the refusal r at byte p is the first: the start record's; or of the first turn that is refused; or of one turn more than are allowed
pub data FirstRefusal (n m : ℕ) (card : List ℕ) (r p : ℕ) : Type 0 where
  in_start : start_record_refusal n card ≡ r → 0 < r → p ≡ 0 → FirstRefusal n m card r p
  in-turn : (k : ℕ) → ReadTo n card k → k < m → turn_at k < length card → refusal_at card k ≡ r → 0 < r → p ≡ turn_at k → FirstRefusal n m card r p
  too_many : ReadTo n card m → turn_at m < length card → r ≡ 22 → p ≡ turn_at m → FirstRefusal n m card r p

-- the card ends after k turns, none of them refused
pub record EndsAfter (n m : ℕ) (card : List ℕ) (k : ℕ) : Type 0 where
  pub read : ReadTo n card k
  pub few : k ≤ m
  pub ended : length card ≤ turn_at k

-- ---- what was read so far decides nothing more

reads-from : (card : List ℕ) (k left : ℕ) → ((j : ℕ) → j < k → (turn_at j < length card) × (refusal_at card j ≡ 0))
    → read_from (k + left) card 0 ≡ read_from left card k
reads-from card zero left f = let e : 0 + left ≡ left = omega arith in rw e
reads-from card (suc k) left f =
    let e : suc k + left ≡ k + suc left = omega arith in
    let h = f k (omega arith) in
    rw e (reads-from card k (suc left) (λ j l. f j (omega arith)) ∙ read-on left card k h.0 h.1)

pub reads_on : (n m : ℕ) (card : List ℕ) (k : ℕ) → ReadTo n card k → k ≤ m → read_answer n m card ≡ read_from (m - k) card k
reads_on n m card k s h =
    let e : m ≡ k + (m - k) = omega arith in
    read-begins n m card s.start ∙ ap (λ (l : ℕ). read_from l card 0) e ∙ reads-from card k (m - k) s.turns

-- ---- the first step that does not go on decides

pub read_more : {n : ℕ} {card : List ℕ} {k : ℕ} → ReadTo n card k → turn_at k < length card → refusal_at card k ≡ 0 → ReadTo n card (suc k)
read_more {n} {card} {k} s h e = record { start = s.start; turns = λ j l. go j (last l) }
  where
    go : (j : ℕ) → (j ≡ k) ⊎ (j < k) → (turn_at j < length card) × (refusal_at card j ≡ 0)
    go j (inl q) = rw q (h, e)
    go j (inr l) = s.turns j l

read_none : {n : ℕ} {card : List ℕ} → start_record_refusal n card ≡ 0 → ReadTo n card 0
read_none e = record { start = e; turns = λ j l. absurd (omega arith) }

-- what an answer of the reader tells
abbrev pub Tells : ℕ → ℕ → List ℕ → Answer → Type 0
Tells n m card (value k) = EndsAfter n m card k
Tells n m card (refused r p) = FirstRefusal n m card r p

module _ {n m : ℕ} {card : List ℕ} where
  tells-from : (left k : ℕ) → k + left ≡ m → ReadTo n card k → Tells n m card (read_from left card k)
  tells-from zero k e s = go (last_step card k)
    where
      go : LastStep card k (read_from 0 card k) → Tells n m card (read_from 0 card k)
      go (LastStep.ends h q) = rw q (record { read = s; few = omega arith; ended = h })
      go (over h q) =
          let z : k ≡ m = omega arith in
          rw q (too_many (rw z at s) (rw z at h) refl (ap turn_at z))
  tells-from (suc left) k e s = go (read_step left card k) (tells-from left (suc k) (omega arith))
    where
      go : Step card k (read_from (suc left) card k) (read_from left card (suc k))
          → (ReadTo n card (suc k) → Tells n m card (read_from left card (suc k))) → Tells n m card (read_from (suc left) card k)
      go (ends h q) ih = rw q (record { read = s; few = omega arith; ended = h })
      go (refuses h l q) ih = rw q (in-turn k s (omega arith) h refl l refl)
      go (goes h u q) ih = rw q (ih (read_more s h u))

pub answer-tells : (n m : ℕ) (card : List ℕ) → Tells n m card (read_answer n m card)
answer-tells n m card = go (first_step n m card)
  where
    go : FirstStep n card (read_answer n m card) (read_from m card 0) → Tells n m card (read_answer n m card)
    go (FirstStep.refuses h q) = rw q (in_start refl h refl)
    go (begins e q) = rw q (tells-from m 0 (omega arith) (read_none e))

-- ---- so each answer is said by its record

pub first-refusal : (n m : ℕ) (card : List ℕ) (r p : ℕ) → (read_answer n m card ≡ refused r p) ↔ FirstRefusal n m card r p
first-refusal n m card r p = ((λ e. subst (Tells n m card) e (answer-tells n m card)), back)
  where
    back : FirstRefusal n m card r p → read_answer n m card ≡ refused r p
    back (in_start e l q) = read-unbegun n m card (omega arith) ∙ ap₂ refused e (sym q)
    back (in-turn k s l h e z q) =
        let left : m - k ≡ suc (m - suc k) = omega arith in
        reads_on n m card k s (omega arith)
        ∙ ap (λ (i : ℕ). read_from i card k) left
        ∙ read-refused (m - suc k) card k h (omega arith)
        ∙ ap₂ refused e (sym q)
    back (too_many s h e q) =
        let left : m - m ≡ 0 = omega arith in
        reads_on n m card m s (omega arith) ∙ ap (λ (i : ℕ). read_from i card m) left ∙ read-over card m h ∙ ap₂ refused (sym e) (sym q)

pub read-exactly : (n m : ℕ) (card : List ℕ) (k : ℕ) → (read_answer n m card ≡ value k) ↔ EndsAfter n m card k
read-exactly n m card k = (
  (λ e. subst (Tells n m card) e (answer-tells n m card)),
  λ s. reads_on n m card k s.read s.few ∙ read-end (m - k) card k s.ended,
)
