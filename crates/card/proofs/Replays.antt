-- How a card is replayed, as the code's loop goes: its start record, then turn after turn.
-- Assumes nothing.
use mathlib.Core.Path.{◌≡◌, refl, sym, ap, ◌∙◌, subst}
use mathlib.Core.Bool.{Bool, true, false, cond}
use mathlib.Core.Logic.{◌⊎◌, inl, inr, ◌≢◌}
use mathlib.Core.List.{List, ◌++◌, append-nil}
use Prim.Native.Nat.{ℕ, suc, ◌+◌, ◌-◌, ◌≤◌, ◌<◌, min}
use native.Mathlib.Numerals.{add-one}
use native.Mathlib.Omega.{arith}
use borrow.Author.Tests.{lt-ltb, le-ltb, ltb-true, ltb-false, eqb-true, eqb-false}
use lib.Dec.{ltb, eqb}
use lib.IntN.{ℤ}
use lib.ListN.{length, drop, length-append, length-drop}
use lib.Seq.{drop_at}
use Rattle.std.specs.Prelude.{Option, Some, None, Result, Ok, Err}
use Rattle.std.specs.Bool.{then_some}
use Rattle.std.proofs.lemmas.List.{nil_from_length}
use Rattle.ints.specs.Answer.{refused}
use Rattle.ints.proofs.Tests.{lt-or-le}
use Rattle.ints.specs.Refusals.{number}
use Rattle.ints.specs.declared.refusal.Refusal.{Refusal}
use Rattle.ints.specs.declared.refusal.Refused.{Refused}
use Rattle.ints.proofs.Refusals.{number-pos}
use Rattle.position.specs.Board.{Accepted}
use Rattle.card.specs.Read.{turn_at, turn_refusal, after_turn, board_after, read_from, read_answer}
use Rattle.card.specs.Replay.{StartRead, TurnRead, Whole}
use Rattle.card.proofs.Records.{refusal_at, next-record, read-end, read-over, read-on, read-refused, read-begins, read-unbegun}
use Rattle.card.proofs.Turns.{unrefused-fine}
use Rattle.card.proofs.Prefixes.{refusal-own, after-own}

-- the loop's invariant: k turns were read, the board after them is b, and the bytes `left` are still to be read; the board after `stop`
-- turns is noted once they are read
pub record Going (n m : ℕ) (card : List ℕ) (stop : ℕ) (b : List ℤ) (asked : Option (List ℤ)) (k : ℕ) (left : List ℕ) : Type 0 where
  pub few : k ≤ m
  pub bytes : left ≡ drop (turn_at k) card
  pub board : b ≡ board_after card k
  pub ok : Accepted n b
  pub rest : read_answer n m card ≡ read_from (m - k) card k
  pub noted : asked ≡ cond (ltb k stop) None (Some (board_after card stop))

-- the bytes that are left are those of the record that is next, all that are left where they are fewer than five, and those after it
pub record Cut (left bytes after : List ℕ) : Type 0 where
  pub parts : left ≡ bytes ++ after
  pub size : length bytes ≡ min 5 (length left)
  pub some : 0 < length left

-- the start record is refused
pub no-start : (n m : ℕ) (card : List ℕ) (why : Refusal) → StartRead n card (Err why) → refused (number why) 0 ≡ read_answer n m card
no-start n m card why s = rw s (sym (read-unbegun n m card (omega (arith, s, number-pos why))))

module _ (n m : ℕ) (card : List ℕ) (stop : ℕ) where
  -- the loop begins
  pub going_start : {b : List ℤ} → StartRead n card (Ok b) → Going n m card stop b (then_some (eqb stop 0) b) 0 (drop 12 card)
  unfolding board_after
  going_start {b} s =
      let q : m - 0 ≡ m = omega arith in
      record {
        few = omega arith;
        bytes = refl;
        board = s.1;
        ok = subst (Accepted n) (sym s.1) s.2;
        rest = rw q (read-begins n m card s.0);
        noted = go (eqb stop 0) refl;
      }
    where
      go : (t : Bool) → eqb stop 0 ≡ t → then_some t b ≡ cond (ltb 0 stop) None (Some (board_after card stop))
      go true e = let q = eqb-true stop 0 e in rw (q, s.1) refl
      go false e = let q = eqb-false stop 0 e in rw (lt-ltb 0 stop (omega (arith, q))) refl

  module _ {b : List ℤ} {asked : Option (List ℤ)} {k : ℕ} {left : List ℕ} (g : Going n m card stop b asked k left) where
    -- how many bytes are left tells where the card ends
    long : length left ≡ length card - turn_at k
    long = ap length g.bytes ∙ length-drop (turn_at k) card

    -- the card ends
    pub all-read : length left ≡ 0 → Whole n m card stop (record { turns = k; last = b; asked = asked })
    all-read h = record {
      told = sym (g.rest ∙ read-end (m - k) card k (omega (arith, long)));
      last = g.board;
      ok = g.ok;
      asked = g.noted;
    }

    module _ {bytes after : List ℕ} (cut : Cut left bytes after) where
      more : turn_at k < length card
      more = omega (arith, long, cut.some)

      -- a turn too many
      pub one-over : k ≡ m → refused 22 (turn_at k) ≡ read_answer n m card
      one-over e = let none : m - k ≡ 0 = omega arith in sym (g.rest ∙ rw none (read-over card k more))

      module _ (less : k ≢ m) where
        -- there are more turns to come
        to-come : m - k ≡ suc (m - suc k)
        to-come = let f = g.few in omega (arith, less)

        -- the record's own bytes tell of the turn what all that are left tell
        judged : turn_refusal b bytes ≡ refusal_at card k
        judged = go (lt-or-le (length left) 5) ∙ rw (g.bytes, g.board) refl
          where
            go : (length left < 5) ⊎ (5 ≤ length left) → turn_refusal b bytes ≡ turn_refusal b left
            go (inl h) =
                let none = nil_from_length after (omega (arith, ap length cut.parts, length-append bytes after)) in
                ap (turn_refusal b) (sym (cut.parts ∙ rw none (append-nil bytes)))
            go (inr h) = sym (refusal-own b bytes after (omega (arith, cut.size))) ∙ ap (turn_refusal b) (sym cut.parts)

        -- the turn is refused, and the refusal carries the record's place
        pub turn-refused : (r : Result (List ℤ) Refusal) → TurnRead n b bytes r → (e : Refused) (place : ℕ) → place ≡ turn_at k → ((c : List ℤ) → r ≢ Ok c)
            → ((why : Refusal) → r ≡ Err why → e ≡ record { why = why; carried = place }) → refused (number e.why) e.carried ≡ read_answer n m card
        turn-refused (Ok c) t e place p none is = absurd (none c refl)
        turn-refused (Err why) t e place p none is =
            let q : number why ≡ refusal_at card k = t ∙ judged in
            rw (is why refl, p, q) (sym (g.rest ∙ rw to-come (read-refused (m - suc k) card k more (omega (arith, number-pos why)))))

        module _ {c : List ℤ} (t : TurnRead n b bytes (Ok c)) where
          five : length bytes ≡ 5
          five = let w = (unrefused-fine b bytes t.0).whole in omega (arith, cut.size)

          next-board : c ≡ board_after card (k + 1)
          unfolding board_after
          next-board =
              t.1
              ∙ sym (after-own b bytes after (omega (arith, five)))
              ∙ ap (after_turn b) (sym cut.parts ∙ g.bytes)
              ∙ rw (g.board, add-one k) refl

          pub going_on : {note : Option (List ℤ)} → (k + 1 ≡ stop → note ≡ Some c) → (k + 1 ≢ stop → note ≡ asked)
              → Going n m card stop c note (k + 1) after
          going_on {note} now before = record {
            few = let f = g.few in omega (arith, less);
            bytes = sym (drop_at bytes after 5 five) ∙ ap (drop 5) (sym cut.parts ∙ g.bytes) ∙ rw (add-one k) (sym (next-record card k));
            board = next-board;
            ok = subst (Accepted n) (sym t.1) t.2;
            rest = g.rest ∙ rw (to-come, add-one k) (read-on (m - suc k) card k more (sym judged ∙ t.0));
            noted = go (eqb (k + 1) stop) (ltb (k + 1) stop) refl refl;
          }
            where
              -- the board after this turn was asked, a later one was, or one that is noted already
              go : (t l : Bool) → eqb (k + 1) stop ≡ t → ltb (k + 1) stop ≡ l → note ≡ cond l None (Some (board_after card stop))
              go true l e f =
                  let q = eqb-true (k + 1) stop e in
                  now q ∙ rw (sym f, q, le-ltb stop stop (omega arith)) (ap Some (next-board ∙ ap (board_after card) q))
              go false true e f =
                  let q = ltb-true (k + 1) stop f in
                  before (eqb-false (k + 1) stop e) ∙ g.noted ∙ rw (lt-ltb k stop (omega arith)) refl
              go false false e f =
                  let q = eqb-false (k + 1) stop e in
                  let h = ltb-false (k + 1) stop f in
                  before q ∙ g.noted ∙ rw (le-ltb k stop (omega (arith, q))) refl
