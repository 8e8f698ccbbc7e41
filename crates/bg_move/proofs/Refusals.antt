-- Where a play can be asked, recovery refuses exactly the boards that are no legal end, by 12, and for each other answers steps that make that end.
-- Assumes nothing.
use mathlib.Core.Path.{◌≡◌, refl}
use mathlib.Core.Logic.{◌↔◌, inl, inr}
use mathlib.Core.Bool.{Bool, true, false, cond, ◌&&◌}
use mathlib.Core.List.{List}
use Prim.Native.Nat.{ℕ}
use native.Mathlib.Omega.{arith}
use borrow.Author.Tests.{lt-ltb, le-ltb, eq-eqb}
use lib.Dec.{ltb}
use lib.IntN.{ℤ}
use lib.ListN.{length}
use Rattle.ints.proofs.Tests.{lt-or-le, and_left, and_right}
use Rattle.dice.specs.Dice.{is_die, Die}
use Rattle.dice.proofs.TwoDice.{test-die}
use Rattle.position.specs.Board.{refusal_of, start_refusal}
use Rattle.position.proofs.Boards.{unrefused-accepted}
use Rattle.position.proofs.Steps.{accepted-good}
use Rattle.rules.specs.Plays.{dice_rolled, LegalEnd}
use Rattle.rules.specs.Ends.{ends_of, among}
use Rattle.rules.proofs.Exact.{accepted-exact}
use Rattle.rules.proofs.Lists.{among-is, not-among}
use Rattle.moves.specs.Answers.{play_refusal, CanPlay}
use Rattle.bg_move.specs.Steps.{Made, steps_of}
use Rattle.bg_move.specs.Answers.{recover_refusal, recovered}
use Rattle.bg_move.proofs.Recovery.{recovered-made}

-- ---- no refusal of a play: it can be asked

-- where the first refusal that is not 0 is 0, each is
none_first : (m k : ℕ) → cond (ltb 0 m) m k ≡ 0 → (m ≡ 0) × (k ≡ 0)
none_first m k h = elim (lt-or-le 0 m) [
  | inl l ↦ let z : m ≡ 0 = rw (lt-ltb 0 m l) at h in let r : ⊥ = omega arith in absurd r
  | inr l ↦ let z : k ≡ 0 = rw (le-ltb 0 m l) at h in omega arith
]

-- no refusal where a test holds, else k
abbrev or_refused : Bool → ℕ → ℕ
or_refused t k = cond t 0 k

module _ (n : ℕ) (b : List ℤ) (d1 d2 : ℕ) where
  board-ok : start_refusal n b ≡ 0 → refusal_of n b ≡ 0
  unfolding start_refusal
  board-ok h = (none_first (refusal_of n b) _ h).0

  start-dice : play_refusal n b d1 d2 ≡ 0 → (start_refusal n b ≡ 0) × (or_refused (is_die d1 && is_die d2) 7 ≡ 0)
  unfolding play_refusal
  start-dice h = none_first (start_refusal n b) _ h

  pub can-play : length b ≡ 26 → play_refusal n b d1 d2 ≡ 0 → CanPlay n b d1 d2
  can-play size h =
      let r = start-dice h in
      let both : is_die d1 && is_die d2 ≡ true = dice (is_die d1 && is_die d2) r.1 in
      record {
        accepted = unrefused-accepted n b size (board-ok r.0);
        first = and_left (is_die d1) (is_die d2) both;
        second = and_right (is_die d1) (is_die d2) both;
      }
    where
      dice : (t : Bool) → or_refused t 7 ≡ 0 → t ≡ true
      dice true e = refl
      dice false e = let r : ⊥ = omega arith in absurd r

-- ---- what recovery answers then

module _ (n : ℕ) (b : List ℤ) (d1 d2 : ℕ) (size : length b ≡ 26) (ok : play_refusal n b d1 d2 ≡ 0) (e : List ℤ) where
  asked : CanPlay n b d1 d2
  asked = can-play n b d1 d2 size ok

  first-die : Die d1
  first-die = test-die d1 asked.first

  second-die : Die d2
  second-die = test-die d2 asked.second

  by-ends : recover_refusal n b d1 d2 e ≡ or_refused (among e (ends_of b d1 d2)) 12
  unfolding recover_refusal
  by-ends = rw (le-ltb 0 (play_refusal n b d1 d2) (omega arith))

  -- a board is an end of the list exactly if it is legal
  listed-legal : among e (ends_of b d1 d2) ≡ true → LegalEnd b d1 d2 e
  listed-legal t = (accepted-exact asked.accepted d1 d2 first-die second-die e).0 ((among-is e (ends_of b d1 d2)).0 t)

  unlisted : among e (ends_of b d1 d2) ≡ false → LegalEnd b d1 d2 e → ⊥
  unlisted t l = not-among e (ends_of b d1 d2) t ((accepted-exact asked.accepted d1 d2 first-die second-die e).1 l)

  pub refused-12 : ((recover_refusal n b d1 d2 e ≡ 0) ↔ LegalEnd b d1 d2 e) × ((LegalEnd b d1 d2 e → ⊥) → recover_refusal n b d1 d2 e ≡ 12)
  refused-12 = rw by-ends (go (among e (ends_of b d1 d2)) refl)
    where
      go : (t : Bool) → among e (ends_of b d1 d2) ≡ t
          → ((or_refused t 12 ≡ 0) ↔ LegalEnd b d1 d2 e) × ((LegalEnd b d1 d2 e → ⊥) → or_refused t 12 ≡ 12)
      go true h = (((λ z. listed-legal h), λ l. refl), λ w. absurd (w (listed-legal h)))
      go false h = (((λ z. let r : ⊥ = omega arith in absurd r), λ l. absurd (unlisted h l)), λ w. refl)

  recovered-steps : LegalEnd b d1 d2 e → recovered n b d1 d2 e ≡ steps_of b d1 d2 e
  unfolding recovered
  recovered-steps l = rw (eq-eqb (recover_refusal n b d1 d2 e) 0 (refused-12.0.1 l))

  pub always-recovers : (l : LegalEnd b d1 d2 e)
      → (recover_refusal n b d1 d2 e ≡ 0) × Made (recovered n b d1 d2 e) (dice_rolled d1 d2) b e × (length (recovered n b d1 d2 e) ≡ l.used)
  always-recovers l =
      let r = recovered-made b d1 d2 e (accepted-good asked.accepted) first-die second-die l in
      rw (recovered-steps l) (refused-12.0.1 l, r.0, r.1)
