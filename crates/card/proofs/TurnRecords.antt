-- How a turn's record is made, as the code's tests go.
-- Assumes nothing.
use mathlib.Core.Path.{◌≡◌, refl, ap, ◌∙◌}
use mathlib.Core.Bool.{Bool, true, false, cond, ◌&&◌}
use mathlib.Core.List.{List, [], ◌∷◌}
use Prim.Native.Nat.{ℕ, ◌+◌, ◌/◌, ◌%◌, min, max, ◌≤◌, ◌<◌}
use native.Mathlib.Omega.{arith}
use borrow.Author.Tests.{lt-ltb, le-ltb, ltb-true}
use lib.Dec.{ltb}
use lib.IntN.{ℤ}
use Rattle.ints.specs.Answer.{value, refused, carried}
use Rattle.ints.proofs.Tests.{and_left, and_right, by_cond}
use Rattle.dice.specs.Rolls.{byte_of}
use Rattle.dice.specs.Dice.{is_die, dice_byte_of}
use Rattle.position.specs.Board.{Accepted}
use Rattle.rules.specs.Ends.{switched_ends_of}
use Rattle.moves.specs.Answers.{play_refusal, ends_count}
use Rattle.moves.proofs.Entries.{count_most}
use Rattle.end_number.specs.Number.{place, number_answer}
use Rattle.card.specs.Read.{finished}
use Rattle.card.specs.Answers.{turn_answer, added_record}
use Rattle.card.specs.Records.{record_refusal}
use Rattle.card.proofs.TurnRead.{playable}

-- the byte of two dice tells that they are dice
module _ (d1 d2 : ℕ) where
  byte-told : {byte : ℕ} → value byte ≡ dice_byte_of d1 d2 → ((is_die d1 && is_die d2) ≡ true) × (byte ≡ byte_of (max d1 d2) (min d1 d2))
  unfolding dice_byte_of
  byte-told {byte} = go (is_die d1 && is_die d2)
    where
      go : (t : Bool) → value byte ≡ cond t (value (byte_of (max d1 d2) (min d1 d2))) (refused 7 0) → (t ≡ true) × (byte ≡ byte_of (max d1 d2) (min d1 d2))
      go true e = (refl, cc)
      go false e = let z : ◌≡◌ {A = ℕ} 0 1 = cc in absurd (omega arith)

-- ---- the record

module _ (n : ℕ) (b : List ℤ) (d1 d2 : ℕ) (e : List ℤ) where
  -- an end's number has two bytes
  answer_small : carried (number_answer n b d1 d2 e) < 65536
  unfolding number_answer
  answer_small =
      by_cond (ltb 0 (play_refusal n b d1 d2)) (refused (play_refusal n b d1 d2) 0) _ (λ x. carried x < 65536) (λ t. omega arith)
      (λ t.
      by_cond (ltb (place e (switched_ends_of b d1 d2)) (ends_count b d1 d2)) (value (place e (switched_ends_of b d1 d2))) (refused 12 0)
      (λ x. carried x < 65536)
      (λ u. omega (arith, count_most b d1 d2, ltb-true (place e (switched_ends_of b d1 d2)) (ends_count b d1 d2) u)) (λ u. omega arith))

  pub number_small : (k : ℕ) → value k ≡ number_answer n b d1 d2 e → k < 65536
  number_small k q = omega (arith, ap carried q, answer_small)

  module _ (a : Accepted n b) (f : finished b ≡ false) {byte : ℕ} (t : value byte ≡ dice_byte_of d1 d2) where
    -- the end's number, past the refusals of a play
    number_is : number_answer n b d1 d2 e
        ≡ cond (ltb (place e (switched_ends_of b d1 d2)) (ends_count b d1 d2)) (value (place e (switched_ends_of b d1 d2))) (refused 12 0)
    unfolding number_answer
    number_is =
        let dice = (byte-told d1 d2 t).0 in
        let p = playable n b a f d1 d2 (and_left (is_die d1) (is_die d2) dice) (and_right (is_die d1) (is_die d2) dice) in
        rw (le-ltb 0 (play_refusal n b d1 d2) (omega arith))

    pub no-end : (k : ℕ) → refused k 0 ≡ number_answer n b d1 d2 e → k ≡ record_refusal b d1 d2 e
    no-end k q = go (ltb (place e (switched_ends_of b d1 d2)) (ends_count b d1 d2)) refl (q ∙ number_is)
      where
        go : (u : Bool) → ltb (place e (switched_ends_of b d1 d2)) (ends_count b d1 d2) ≡ u
            → refused k 0 ≡ cond u (value (place e (switched_ends_of b d1 d2))) (refused 12 0) → k ≡ record_refusal b d1 d2 e
        go true l r = let z : ◌≡◌ {A = ℕ} 0 1 = cc in absurd (omega arith)
        go false l r = let z : k ≡ 12 = cc in z ∙ rw (f, (byte-told d1 d2 t).0, l) refl

    pub made : (k : ℕ) → value k ≡ number_answer n b d1 d2 e
        → (record_refusal b d1 d2 e ≡ 0) × (0x54 ∷ 0x55 ∷ byte ∷ k % 256 ∷ k / 256 % 256 ∷ [] ≡ added_record b d1 d2 e)
    made k q = go (ltb (place e (switched_ends_of b d1 d2)) (ends_count b d1 d2)) refl (q ∙ number_is)
      where
        go : (u : Bool) → ltb (place e (switched_ends_of b d1 d2)) (ends_count b d1 d2) ≡ u
            → value k ≡ cond u (value (place e (switched_ends_of b d1 d2))) (refused 12 0)
            → (record_refusal b d1 d2 e ≡ 0) × (0x54 ∷ 0x55 ∷ byte ∷ k % 256 ∷ k / 256 % 256 ∷ [] ≡ added_record b d1 d2 e)
        go true l r =
            let d = byte-told d1 d2 t in
            let z : k ≡ place e (switched_ends_of b d1 d2) = cc in
            let high : k / 256 % 256 ≡ k / 256 = omega (arith, number_small k q) in
            (rw (f, d.0, l) refl, rw (high, d.1, z) refl)
        go false l r = let z : ◌≡◌ {A = ℕ} 0 1 = cc in absurd (omega arith)

-- ---- what adding the record answers

module _ (m : ℕ) (b : List ℤ) (k d1 d2 : ℕ) (e : List ℤ) (room len : ℕ) where
  module _ (h : k < m) where
    pub turn-refused : 0 < record_refusal b d1 d2 e → refused (record_refusal b d1 d2 e) 0 ≡ turn_answer m b k d1 d2 e room len
    unfolding turn_answer
    turn-refused p =
        rw (lt-ltb k m h)
        (go (finished b) (is_die d1 && is_die d2) (ltb (place e (switched_ends_of b d1 d2)) (ends_count b d1 d2)) p)
      where
        go :
            (f t l : Bool) → 0 < cond f 25 (cond t (cond l 0 12) 7)
            → refused (cond f 25 (cond t (cond l 0 12) 7)) 0
            ≡ cond f (refused 25 0) (cond t (cond l (cond (ltb room (len + 5)) (refused 19 0) (value (len + 5))) (refused 12 0)) (refused 7 0))
        go true t l p = refl
        go false true true p = absurd (omega arith)
        go false true false p = refl
        go false false l p = refl

    turn-made : record_refusal b d1 d2 e ≡ 0 → cond (ltb room (len + 5)) (refused 19 0) (value (len + 5)) ≡ turn_answer m b k d1 d2 e room len
    unfolding turn_answer
    turn-made z =
        rw (lt-ltb k m h)
        (go (finished b) (is_die d1 && is_die d2) (ltb (place e (switched_ends_of b d1 d2)) (ends_count b d1 d2)) z)
      where
        go :
            (f t l : Bool) → ◌≡◌ {A = ℕ} (cond f 25 (cond t (cond l 0 12) 7)) 0
            → cond (ltb room (len + 5)) (refused 19 0) (value (len + 5))
            ≡ cond f (refused 25 0) (cond t (cond l (cond (ltb room (len + 5)) (refused 19 0) (value (len + 5))) (refused 12 0)) (refused 7 0))
        go true t l z = absurd (omega arith)
        go false true true z = refl
        go false true false z = absurd (omega arith)
        go false false l z = absurd (omega arith)

    pub turn-added : record_refusal b d1 d2 e ≡ 0 → len + 5 ≤ room → value (len + 5) ≡ turn_answer m b k d1 d2 e room len
    turn-added z r = rw (le-ltb room (len + 5) r) at (turn-made z)
