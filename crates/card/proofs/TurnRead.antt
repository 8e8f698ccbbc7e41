-- How a turn is played by its dice byte and the number of its end, as the code's cases go.
-- Assumes nothing.
use mathlib.Core.Path.{◌≡◌, refl, sym, ap, ◌∙◌, subst}
use mathlib.Core.Bool.{Bool, true, false, cond}
use mathlib.Core.List.{List, []}
use Prim.Native.Nat.{ℕ, ◌/◌, ◌%◌, ◌<◌}
use native.Mathlib.Omega.{arith}
use borrow.Author.Tests.{le-ltb, ltb-true, eqb-true}
use lib.Dec.{ltb, eqb}
use lib.IntN.{ℤ}
use lib.ListN.{get_or}
use Rattle.std.specs.Prelude.{Result, Ok, Err}
use Rattle.ints.specs.declared.refusal.Refusal.{Refusal}
use Rattle.ints.specs.declared.refusal.Refusal.TheVariants.{NoSuchRoll}
use Rattle.dice.specs.declared.Dice.{Dice}
use Rattle.dice.specs.declared.MixedDice.{MixedDice}
use Rattle.dice.specs.declared.Dice.TheVariants.{Double, Mixed}
use Rattle.dice.specs.Rolls.{rolls}
use Rattle.dice.specs.Dice.{is_die, is_byte_in, roll_of, dice_of_byte}
use Rattle.dice.proofs.TwoDice.{test-die, range-die}
use Rattle.dice.proofs.Bytes.{in_order}
use Rattle.position.specs.Board.{Accepted}
use Rattle.position.specs.Answers.{BoardAnswer, board_told, board_answer}
use Rattle.rules.specs.Ends.{switched_ends_of}
use Rattle.rules.proofs.Switched.{switched-end-accepted}
use Rattle.moves.specs.Answers.{play_refusal, ends_count, end_refusal, end_answer}
use Rattle.end_number.proofs.Place.{in_place, number-once}
use Rattle.card.specs.Read.{finished}
use Rattle.card.specs.Replay.{Reached, Played}
use Rattle.card.proofs.Turns.{unfinished-test}
use Rattle.card.proofs.Starts.{start-unrefused}

-- ---- a turn played

module _ (n : ℕ) (b : List ℤ) (a : Accepted n b) (f : finished b ≡ false) (d1 d2 : ℕ) (one : is_die d1 ≡ true) (two : is_die d2 ≡ true) where
  pub playable : play_refusal n b d1 d2 ≡ 0
  unfolding play_refusal
  playable = rw (start-unrefused n b a (unfinished-test b f), one, two)

  end_is : (k : ℕ) → end_refusal n b d1 d2 k ≡ cond (ltb k (ends_count b d1 d2)) 0 11
  unfolding end_refusal
  end_is k = rw (le-ltb 0 (play_refusal n b d1 d2) (omega (arith, playable)))

  listed-accepted : (k : ℕ) → k < ends_count b d1 d2 → Accepted n (get_or (switched_ends_of b d1 d2) k [])
  unfolding ends_count
  listed-accepted k h =
      let e = get_or (switched_ends_of b d1 d2) k [] in
      let q = number-once n b d1 d2 a (test-die d1 one) (test-die d2 two) k h in
      switched-end-accepted n b d1 d2 a (test-die d1 one) (test-die d2 two) e (in_place e (switched_ends_of b d1 d2) (omega arith))

  -- the end with a number, as the generator answers it
  end-reached : (k : ℕ) (r : Result (List ℤ) Refusal) → board_told r ≡ end_answer n b d1 d2 k
      → Reached n (cond (ltb k (ends_count b d1 d2)) 0 11) (get_or (switched_ends_of b d1 d2) k []) r
  unfolding end_answer board_answer
  end-reached k (Err why) e = ap (λ (x : BoardAnswer). x.refused) e ∙ end_is k
  end-reached k (Ok c) e =
      let z : ◌≡◌ {A = ℕ} 0 (end_refusal n b d1 d2 k) = ap (λ (x : BoardAnswer). x.refused) e in
      let counted = sym (end_is k) ∙ sym z in (
        counted,
        ap (λ (x : BoardAnswer). x.board) e ∙ rw (sym z) refl,
        go (ltb k (ends_count b d1 d2)) refl counted,
      )
    where
      go : (t : Bool) → ltb k (ends_count b d1 d2) ≡ t → ◌≡◌ {A = ℕ} (cond t 0 11) 0 → Accepted n (get_or (switched_ends_of b d1 d2) k [])
      go true h q = listed-accepted k (ltb-true k (ends_count b d1 d2) h)
      go false h q = absurd (omega arith)

-- ---- the dice byte of a turn

-- what each case of a dice byte's roll tells of the byte
abbrev pub Holds : ℕ → Dice → Type 0
Holds b (Double d) = (b / 16 ≡ d) × (b % 16 ≡ d)
Holds b (Mixed m) = (b / 16 ≡ m.big) × (b % 16 ≡ m.small)

byte-holds : (b : ℕ) (d : Dice) → Ok d ≡ dice_of_byte b → (is_byte_in rolls b ≡ true) × Holds b d
unfolding dice_of_byte roll_of
byte-holds b d = go (is_byte_in rolls b) (eqb (b / 16) (b % 16)) refl refl
  where
    go :
        (t q : Bool) → is_byte_in rolls b ≡ t → eqb (b / 16) (b % 16) ≡ q
        → Ok d ≡ cond t (Ok (cond q (Double (b / 16)) (Mixed (record { big = b / 16; small = b % 16 })))) (Err NoSuchRoll)
        → (is_byte_in rolls b ≡ true) × Holds b d
    go true true e f g =
        let h : d ≡ Double (b / 16) = cc in
        (e, subst (Holds b) (sym h) (refl, sym (eqb-true (b / 16) (b % 16) f)))
    go true false e f g = let h : d ≡ Mixed (record { big = b / 16; small = b % 16 }) = cc in (e, subst (Holds b) (sym h) (refl, refl))
    go false q e f g = cc

module _ (n : ℕ) (b : List ℤ) (byte k : ℕ) (f : finished b ≡ false) (a : Accepted n b) (small : byte < 256) where
  played-end : is_byte_in rolls byte ≡ true → (d1 d2 : ℕ) → byte / 16 ≡ d1 → byte % 16 ≡ d2
      → (r : Result (List ℤ) Refusal) → board_told r ≡ end_answer n b d1 d2 k → Played n b byte k r
  played-end t d1 d2 e1 e2 r e =
      let o = in_order byte small t in
      rw (f, t) (
      end-reached n b a f (byte / 16) (byte % 16) (range-die (byte / 16) (omega arith) (omega arith)) (range-die (byte % 16) (omega arith) (omega arith))
      k r (rw (e1, e2) e)
      )

  -- the two cases of the roll
  pub played-double : {d : ℕ} → Ok (Double d) ≡ dice_of_byte byte → (r : Result (List ℤ) Refusal) → board_told r ≡ end_answer n b d d k → Played n b byte k r
  played-double {d} e r = let h = byte-holds byte (Double d) e in played-end h.0 d d h.1.0 h.1.1 r

  pub played-mixed : {d : MixedDice} → Ok (Mixed d) ≡ dice_of_byte byte → (r : Result (List ℤ) Refusal) → board_told r ≡ end_answer n b d.big d.small k
      → Played n b byte k r
  played-mixed {d} e r = let h = byte-holds byte (Mixed d) e in played-end h.0 d.big d.small h.1.0 h.1.1 r
