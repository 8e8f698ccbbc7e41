-- The record of one turn: a legal turn's record is read as that turn, and bytes that are read as a turn are the record of a legal one.
-- Stated over the number n of checkers a side. Assumes nothing.
use mathlib.Core.Path.{◌≡◌, refl, ◌∙◌}
use mathlib.Core.Bool.{Bool, true, false, cond, ◌&&◌, ◌||◌}
use mathlib.Core.Logic.{◌⊎◌, inl, inr}
use mathlib.Core.List.{List, [], ◌∷◌, ◌++◌, map}
use Prim.Native.Nat.{ℕ, zero, suc, ◌/◌, ◌%◌, ◌≤◌, ◌<◌, min, max}
use native.Mathlib.Omega.{arith}
use lib.Dec.{ltb, eqb}
use lib.IntN.{ℤ}
use lib.ListN.{length, get_or, drop}
use borrow.Author.Tests.{ltb-true, ltb-false, lt-ltb, le-ltb, le-leb, eqb-true, eqb-false, eq-eqb, ne_eqb}
use Rattle.ints.specs.Bits.{Bytes}
use Rattle.ints.proofs.Tests.{lt-or-le}
use Rattle.dice.specs.Rolls.{byte_of, rolls}
use Rattle.dice.specs.Dice.{is_byte_in, Die}
use Rattle.dice.proofs.Bytes.{in-range, in_order}
use Rattle.position.specs.Board.{Accepted, x_all, o_all, switched}
use Rattle.position.proofs.SideSwitch.{switched-accepted}
use Rattle.rules.specs.Plays.{LegalEnd}
use Rattle.rules.specs.Ends.{ends_of, switched_ends_of, In}
use Rattle.rules.proofs.Dice.{dice-order, legal-order}
use Rattle.rules.proofs.Exact.{accepted-exact, accepted-once}
use Rattle.rules.proofs.Accepted.{end-accepted}
use Rattle.moves.specs.Answers.{ends_count}
use Rattle.moves.proofs.Entries.{count-is}
use Rattle.end_number.specs.Number.{place}
use Rattle.end_number.proofs.Place.{place_in, in_place, place-get_or, place-once}
use Rattle.card.specs.Game.{Roll, Turn, Unfinished, next}
use Rattle.card.specs.Card.{record_of}
use Rattle.card.specs.Read.{larger, smaller, end_number, finished, turn_refusal, after_turn}

-- ---- the tests of a turn's record as facts

-- what holds of the bytes r that are read as a turn from b
pub record Fine (b : List ℤ) (r : List ℕ) : Type 0 where
  pub whole : 5 ≤ length r
  pub first : get_or r 0 0 ≡ 0x54
  pub second : get_or r 1 0 ≡ 0x55
  pub unfinished : Unfinished b
  pub dice : is_byte_in rolls (get_or r 2 0) ≡ true
  pub known : end_number r < ends_count b (larger r) (smaller r)

pub not-finished : (b : List ℤ) → Unfinished b → finished b ≡ false
not-finished b u = rw (ne_eqb (x_all b) 0 (λ e. omega (arith, u.x)), ne_eqb (o_all b) 0 (λ e. omega (arith, u.o)))

pub unfinished-test : (b : List ℤ) → finished b ≡ false → Unfinished b
unfinished-test b = go (eqb (x_all b) 0) (eqb (o_all b) 0) refl refl
  where
    go : (t q : Bool) → eqb (x_all b) 0 ≡ t → eqb (o_all b) 0 ≡ q → (t || q) ≡ false → Unfinished b
    go true q e f g = let z : ◌≡◌ {A = ℕ} 0 1 = cc in absurd (omega arith)
    go false true e f g = let z : ◌≡◌ {A = ℕ} 0 1 = cc in absurd (omega arith)
    go false false e f g =
        let h = eqb-false (x_all b) 0 e in
        let k = eqb-false (o_all b) 0 f in
        record { x = omega arith; o = omega arith }

pub fine-unrefused : (b : List ℤ) (r : List ℕ) → Fine b r → turn_refusal b r ≡ 0
unfolding turn_refusal
fine-unrefused b r f =
    rw (
      le-ltb (length r) 5 f.whole,
      eq-eqb (get_or r 0 0) 0x54 f.first,
      eq-eqb (get_or r 1 0) 0x55 f.second,
      not-finished b f.unfinished,
      f.dice,
      lt-ltb (end_number r) (ends_count b (larger r) (smaller r)) f.known,
    )

pub unrefused-fine : (b : List ℤ) (r : List ℕ) → turn_refusal b r ≡ 0 → Fine b r
unfolding turn_refusal
unrefused-fine b r =
    go (ltb (length r) 5) (eqb (get_or r 0 0) 0x54) (eqb (get_or r 1 0) 0x55) (finished b) (is_byte_in rolls (get_or r 2 0))
    (ltb (end_number r) (ends_count b (larger r) (smaller r))) refl refl refl refl refl refl
  where
    go : (short m1 m2 done dice known : Bool) → ltb (length r) 5 ≡ short → eqb (get_or r 0 0) 0x54 ≡ m1 → eqb (get_or r 1 0) 0x55 ≡ m2
        → finished b ≡ done → is_byte_in rolls (get_or r 2 0) ≡ dice → ltb (end_number r) (ends_count b (larger r) (smaller r)) ≡ known
        → ◌≡◌ {A = ℕ} (cond short 23 (cond (m1 && m2) (cond done 25 (cond dice (cond known 0 11) 26)) 24)) 0 → Fine b r
    go true m1 m2 done dice known e1 e2 e3 e4 e5 e6 e = absurd (omega arith)
    go false false m2 done dice known e1 e2 e3 e4 e5 e6 e = absurd (omega arith)
    go false true false done dice known e1 e2 e3 e4 e5 e6 e = absurd (omega arith)
    go false true true true dice known e1 e2 e3 e4 e5 e6 e = absurd (omega arith)
    go false true true false false known e1 e2 e3 e4 e5 e6 e = absurd (omega arith)
    go false true true false true false e1 e2 e3 e4 e5 e6 e = absurd (omega arith)
    go false true true false true true e1 e2 e3 e4 e5 e6 e = record {
      whole = ltb-false (length r) 5 e1;
      first = eqb-true (get_or r 0 0) 0x54 e2;
      second = eqb-true (get_or r 1 0) 0x55 e3;
      unfinished = unfinished-test b e4;
      dice = e5;
      known = ltb-true (end_number r) (ends_count b (larger r) (smaller r)) e6;
    }

-- ---- dice

pub larger-is-die : {l s : ℕ} → Roll l s → Die l
larger-is-die r = record { low = omega (arith, r.low, r.ordered); high = r.high }

pub smaller-is-die : {l s : ℕ} → Roll l s → Die s
smaller-is-die r = record { low = r.low; high = omega (arith, r.high, r.ordered) }

-- the byte of a roll is one of the 21
pub roll-byte : {l s : ℕ} → Roll l s → is_byte_in rolls (byte_of l s) ≡ true
roll-byte {l} {s} r =
    let b = byte_of l s in
    let x : b / 16 ≡ l = omega arith in
    let y : b % 16 ≡ s = omega arith in
    rw (in-range b (omega arith), x, y, le-leb 1 s r.low, le-leb s l r.ordered, le-leb l 6 r.high)

-- the dice in either order are their roll
module _ (d1 d2 : ℕ) (b : List ℤ) where
  pub ends-by-size : ends_of b d1 d2 ≡ ends_of b (max d1 d2) (min d1 d2)
  ends-by-size = go (lt-or-le d1 d2)
    where
      go : (d1 < d2) ⊎ (d2 ≤ d1) → ends_of b d1 d2 ≡ ends_of b (max d1 d2) (min d1 d2)
      go (inl h) = let l : max d1 d2 ≡ d2 = omega arith in let s : min d1 d2 ≡ d1 = omega arith in rw (l, s) (dice-order d1 d2 b)
      go (inr h) = let l : max d1 d2 ≡ d1 = omega arith in let s : min d1 d2 ≡ d2 = omega arith in rw (l, s)

  pub legal-by-size : (e : List ℤ) → LegalEnd b d1 d2 e → LegalEnd b (max d1 d2) (min d1 d2) e
  legal-by-size e legal = go (lt-or-le d1 d2)
    where
      go : (d1 < d2) ⊎ (d2 ≤ d1) → LegalEnd b (max d1 d2) (min d1 d2) e
      go (inl h) = let l : max d1 d2 ≡ d2 = omega arith in let s : min d1 d2 ≡ d1 = omega arith in rw (l, s) (legal-order d1 d2 b e legal)
      go (inr h) = let l : max d1 d2 ≡ d1 = omega arith in let s : min d1 d2 ≡ d2 = omega arith in rw (l, s) legal

-- ---- the ends by their numbers

get_or-map-in : (f : List ℤ → List ℤ) (l : List (List ℤ)) (k : ℕ) → k < length l → get_or (map f l) k [] ≡ f (get_or l k [])
get_or-map-in f [] k h = let r : ⊥ = omega arith in absurd r
get_or-map-in f (c ∷ l) zero h = refl
get_or-map-in f (c ∷ l) (suc k) h = get_or-map-in f l k (omega arith)

pub switched-get_or : (b : List ℤ) (d1 d2 k : ℕ) → k < length (ends_of b d1 d2)
    → get_or (switched_ends_of b d1 d2) k [] ≡ switched (get_or (ends_of b d1 d2) k [])
unfolding switched_ends_of
switched-get_or b d1 d2 k h = get_or-map-in switched (ends_of b d1 d2) k h

-- ---- a legal turn's record is read as that turn

module _ {n : ℕ} {b : List ℤ} (a : Accepted n b) (t : Turn) (roll : Roll t.larger t.smaller) (legal : LegalEnd b t.larger t.smaller t.stops) where
  listed : In t.stops (ends_of b t.larger t.smaller)
  listed = (accepted-exact a t.larger t.smaller (larger-is-die roll) (smaller-is-die roll) t.stops).1 legal

  pub number-known : place t.stops (ends_of b t.larger t.smaller) < length (ends_of b t.larger t.smaller)
  number-known = place_in t.stops (ends_of b t.larger t.smaller) listed

  pub number-names : get_or (ends_of b t.larger t.smaller) (place t.stops (ends_of b t.larger t.smaller)) [] ≡ t.stops
  number-names = place-get_or t.stops (ends_of b t.larger t.smaller) number-known

  pub next-accepted : Accepted n (next t)
  next-accepted = switched-accepted n t.stops (end-accepted n b t.larger t.smaller t.stops a legal)

  module _ (rest : List ℕ) where
    pub larger-read : larger (record_of b t ++ rest) ≡ t.larger
    larger-read = let s = roll in omega arith

    pub smaller-read : smaller (record_of b t ++ rest) ≡ t.smaller
    smaller-read = let s = roll in omega arith

    pub number_read : end_number (record_of b t ++ rest) ≡ place t.stops (ends_of b t.larger t.smaller)
    number_read = omega arith

    pub record-fine : Unfinished b → Fine b (record_of b t ++ rest)
    record-fine u = record {
      whole = omega arith;
      first = refl;
      second = refl;
      unfinished = u;
      dice = roll-byte roll;
      known = rw (larger-read, smaller-read, number_read, ← (count-is b t.larger t.smaller)) number-known;
    }

    pub after-record : after_turn b (record_of b t ++ rest) ≡ next t
    unfolding after_turn
    after-record =
        rw (larger-read, smaller-read, number_read, switched-get_or b t.larger t.smaller _ number-known, number-names)

-- ---- bytes that are read as a turn are the record of a legal one

-- the turn that the bytes r tell from b
abbrev pub turn_of : List ℤ → List ℕ → Turn
turn_of b r = record { larger = larger r; smaller = smaller r; stops = get_or (ends_of b (larger r) (smaller r)) (end_number r) [] }

five : (r : List ℕ) → 5 ≤ length r → r ≡ get_or r 0 0 ∷ get_or r 1 0 ∷ get_or r 2 0 ∷ get_or r 3 0 ∷ get_or r 4 0 ∷ drop 5 r
five [] h = absurd (omega arith)
five (x0 ∷ []) h = absurd (omega arith)
five (x0 ∷ x1 ∷ []) h = absurd (omega arith)
five (x0 ∷ x1 ∷ x2 ∷ []) h = absurd (omega arith)
five (x0 ∷ x1 ∷ x2 ∷ x3 ∷ []) h = absurd (omega arith)
five (x0 ∷ x1 ∷ x2 ∷ x3 ∷ x4 ∷ r) h = refl

module _ {n : ℕ} {b : List ℤ} (a : Accepted n b) (r : List ℕ) (bytes : Bytes r) (f : Fine b r) where
  pub told-roll : Roll (larger r) (smaller r)
  told-roll =
      let o = in_order (get_or r 2 0) (bytes 2) f.dice in
      record { low = o.0; ordered = o.1; high = o.2 }

  told-known : end_number r < length (ends_of b (larger r) (smaller r))
  told-known = omega (arith, f.known, count-is b (larger r) (smaller r))

  told-number : place (turn_of b r).stops (ends_of b (larger r) (smaller r)) ≡ end_number r
  told-number =
      place-once (ends_of b (larger r) (smaller r)) (accepted-once a (larger r) (smaller r) (larger-is-die told-roll) (smaller-is-die told-roll))
      (end_number r) told-known

  pub told-legal : LegalEnd b (larger r) (smaller r) (turn_of b r).stops
  told-legal =
      (accepted-exact a (larger r) (smaller r) (larger-is-die told-roll) (smaller-is-die told-roll) (turn_of b r).stops).0
      (in_place (turn_of b r).stops (ends_of b (larger r) (smaller r)) (omega (arith, told-number, told-known)))

  pub told-after : after_turn b r ≡ next (turn_of b r)
  unfolding after_turn
  told-after = switched-get_or b (larger r) (smaller r) (end_number r) told-known

  pub told-record : r ≡ record_of b (turn_of b r) ++ drop 5 r
  told-record =
      let low = bytes 3 in
      let dice : get_or r 2 0 ≡ byte_of (larger r) (smaller r) = omega arith in
      let e3 : get_or r 3 0 ≡ end_number r % 256 = omega arith in
      let e4 : get_or r 4 0 ≡ end_number r / 256 = omega arith in
      five r f.whole ∙ (rw told-number (cc (f.first, f.second)))
