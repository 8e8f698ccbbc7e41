-- What the entries that write a card answer and leave in the buffer.
-- Assumes nothing.
use mathlib.Core.Path.{◌≡◌, refl, ap, ◌∙◌}
use mathlib.Core.List.{List, [], ◌∷◌}
use Prim.Native.Nat.{ℕ, ◌+◌, ◌≤◌, ◌<◌}
use native.Mathlib.Omega.{arith}
use borrow.Author.Tests.{le-ltb}
use lib.IntN.{ℤ}
use lib.ListN.{length, take}
use lib.Seq.{sets, sets-eq}
use Rattle.std.specs.Prelude.{Result, Ok, Err}
use Rattle.ints.specs.Answer.{Answer, value, refused}
use Rattle.ints.specs.Refusals.{number}
use Rattle.ints.specs.declared.refusal.Refusal.{Refusal}
use Rattle.ints.proofs.Refusals.{number-pos}
use Rattle.position.specs.Board.{Accepted, start_refusal}
use Rattle.position.proofs.Boards.{accepted-unrefused}
use Rattle.key.specs.Key.{KeyAnswer, key_told, key_of, key_answer}
use Rattle.card.specs.declared.reader.Reading.{Reading}
use Rattle.card.specs.Card.{start_record}
use Rattle.card.specs.Read.{read_answer}
use Rattle.card.specs.Answers.{begin_answer, begun_in, lent_after, turn_answer, add_from, add_answer, last_from, added_record, added_in}
use Rattle.card.specs.Replay.{Whole}
use Rattle.card.specs.Records.{record_refusal}
use Rattle.card.proofs.Starts.{length-start}
use Rattle.card.proofs.TurnRecords.{turn-refused, turn-added}

-- ---- beginning a card

-- the key of an accepted board, as `encode` answers it
pub encoded : (n : ℕ) (b : List ℤ) → Accepted n b → (r : Result (List ℕ) Refusal) → key_told r ≡ key_answer n b → r ≡ Ok (key_of b)
unfolding key_answer
encoded n b a (Ok key) e = ap Ok (ap (λ (x : KeyAnswer). x.key) e ∙ rw (accepted-unrefused n b a) refl)
encoded n b a (Err why) e =
    let z = ap (λ (x : KeyAnswer). x.refused) e in
    absurd (omega (arith, z, accepted-unrefused n b a, number-pos why))

pub begin-written : (n : ℕ) (b : List ℤ) (buffer : List ℕ) → start_refusal n b ≡ 0 → 12 ≤ length buffer
    → (value 12 ≡ begin_answer n b (length buffer)) × (sets (sets buffer 0 (0x53 ∷ 0x54 ∷ [])) 2 (key_of b) ≡ begun_in n b buffer)
unfolding begun_in begin_answer
begin-written n b buffer s h =
    let w : value 12 ≡ begin_answer n b (length buffer) = rw (le-ltb 0 (start_refusal n b) (omega arith), le-ltb (length buffer) 12 h) refl in (
      w,
      sets-eq (start_record b) buffer 0 (omega (arith, length-start b)) ∙ ap (λ (a : Answer). lent_after a buffer 0 (start_record b)) w,
    )

-- ---- adding a turn

module _ (n m : ℕ) (buffer : List ℕ) (len d1 d2 : ℕ) (e : List ℤ) (h : len ≤ length buffer) {stop : ℕ} {x : Reading}
    (p : Whole n m (take len buffer) stop x) (k : x.turns < m) where
  -- the card is read first
  add_turn : turn_answer m x.last x.turns d1 d2 e (length buffer) len ≡ add_answer n m buffer len d1 d2 e
  unfolding add_answer
  add_turn =
      rw p.last
      (ap (λ (a : Answer). add_from a m (take len buffer) d1 d2 e (length buffer) len) p.told ∙ rw (le-ltb (length buffer) len h) refl)

  pub add-no-turn : (why : Refusal) → number why ≡ record_refusal x.last d1 d2 e
      → (refused (number why) 0 ≡ add_answer n m buffer len d1 d2 e) × (buffer ≡ added_in n m buffer len d1 d2 e)
  unfolding added_in
  add-no-turn why i =
      let a : refused (number why) 0 ≡ add_answer n m buffer len d1 d2 e =
      rw i (turn-refused m x.last x.turns d1 d2 e (length buffer) len k (omega (arith, i, number-pos why)) ∙ add_turn) in (
        a,
        ap (λ (v : Answer). lent_after v buffer len (added_record (last_from (read_answer n m (take len buffer)) (take len buffer)) d1 d2 e)) a,
      )

  pub add-written : {bytes : List ℕ} → (record_refusal x.last d1 d2 e ≡ 0) × (bytes ≡ added_record x.last d1 d2 e) → len + 5 ≤ length buffer
      → (value (len + 5) ≡ add_answer n m buffer len d1 d2 e) × (sets buffer len bytes ≡ added_in n m buffer len d1 d2 e)
  unfolding added_in
  add-written {bytes} w s =
      let made = added_record (last_from (read_answer n m (take len buffer)) (take len buffer)) d1 d2 e in
      let stored : bytes ≡ made =
      w.1 ∙ ap (λ (b : List ℤ). added_record b d1 d2 e) (p.last ∙ ap (λ (a : Answer). last_from a (take len buffer)) p.told) in
      let a = turn-added m x.last x.turns d1 d2 e (length buffer) len k w.0 s ∙ add_turn in (
        a,
        ap (sets buffer len) stored ∙ sets-eq made buffer len s ∙ ap (λ (v : Answer). lent_after v buffer len made) a,
      )
