-- The writers write the cards of games: a begun card is the card of a start, an added turn makes the card of the longer game, so turn by
-- turn they write the whole card. Stated over the number n of checkers a side, at most fifteen, and the number m of turns. Assumes nothing.
use mathlib.Core.Path.{◌≡◌, sym, ap, ap₂, ◌∙◌}
use mathlib.Core.Bool.{true}
use mathlib.Core.List.{List, [], ◌∷◌, ◌++◌, append_assoc, append-nil}
use Prim.Native.Nat.{ℕ, suc, ◌+◌, ◌*◌, ◌≤◌, ◌<◌, min, max}
use native.Mathlib.Omega.{arith}
use lib.IntN.{ℤ}
use lib.ListN.{length, take, drop, length-append, length-drop, take-append-drop}
use lib.Seq.{take_at, length-take-le, drop-append-add, drop-drop}
use borrow.Author.Tests.{lt-ltb, le-ltb}
use Rattle.ints.specs.Answer.{Answer, value}
use Rattle.dice.specs.Dice.{is_die}
use Rattle.dice.proofs.TwoDice.{range-die, test-die}
use Rattle.position.specs.Board.{Accepted}
use Rattle.rules.specs.Ends.{ends_of, switched_ends_of}
use Rattle.rules.proofs.Accepted.{end-accepted}
use Rattle.moves.specs.Answers.{ends_count}
use Rattle.moves.proofs.Entries.{count-is}
use Rattle.key.specs.Key.{key_of}
use Rattle.end_number.specs.Number.{place}
use Rattle.end_number.proofs.Place.{number-switched}
use Rattle.card.specs.Game.{Turn, Unfinished, Game, next}
use Rattle.card.specs.Card.{start_record, record_of, card_of}
use Rattle.card.specs.Read.{turn_at, board_after, read_answer}
use Rattle.card.specs.Answers.{begin_answer, begun_in, turn_answer, add_answer, added_record, last_from, lent_after, added_in}
use Rattle.card.proofs.Starts.{start-unrefused, length-start}
use Rattle.card.proofs.Turns.{not-finished, ends-by-size, number-known}
use Rattle.card.proofs.Reading.{card-read, card-positions}
use Rattle.card.proofs.Longer.{last_board, CanAdd, played-last, game-first, game-last, length-card, card-more}

-- ---- beginning

module _ {n : ℕ} {s : List ℤ} (a : Accepted n s) (u : Unfinished s) where
  pub begins : (room : ℕ) → 12 ≤ room → begin_answer n s room ≡ value 12
  unfolding begin_answer
  begins room h = rw (start-unrefused n s a u, le-ltb room 12 h)

  module _ (buffer : List ℕ) (room : 12 ≤ length buffer) where
    -- the card of no turns, and the bytes after it as they were
    pub begun-card : begun_in n s buffer ≡ card_of s [] ++ drop 12 buffer
    unfolding begun_in
    begun-card =
        let e : 0 + length (start_record s) ≡ 12 = omega (arith, length-start s) in
        rw (begins (length buffer) room, e, append-nil (key_of s))

    pub begun-holds : take 12 (begun_in n s buffer) ≡ card_of s []
    begun-holds = ap (take 12) begun-card ∙ take_at (card_of s []) (drop 12 buffer) 12 (length-card s [])

-- ---- a turn that can be added, its dice in either order and its end given switched

module _ {n : ℕ} {b : List ℤ} (a : Accepted n b) (t : Turn) (c : CanAdd b t) (d1 d2 : ℕ) (l : max d1 d2 ≡ t.larger) (s : min d1 d2 ≡ t.smaller) where
  first-die : is_die d1 ≡ true
  first-die = let r = c.roll in range-die d1 (omega arith) (omega arith)

  second-die : is_die d2 ≡ true
  second-die = let r = c.roll in range-die d2 (omega arith) (omega arith)

  same_ends : ends_of b d1 d2 ≡ ends_of b t.larger t.smaller
  same_ends = ends-by-size d1 d2 b ∙ ap₂ (ends_of b) l s

  pub switched-place : place (next t) (switched_ends_of b d1 d2) ≡ place t.stops (ends_of b t.larger t.smaller)
  switched-place =
      number-switched n b d1 d2 a (test-die d1 first-die) (test-die d2 second-die) t.stops
      (end-accepted n b t.larger t.smaller t.stops a c.legal).size
      ∙ ap (place t.stops) same_ends

  pub place-counted : place (next t) (switched_ends_of b d1 d2) < ends_count b d1 d2
  place-counted = omega (arith, switched-place, number-known a t c.roll c.legal, ap length same_ends, count-is b d1 d2)

  -- a turn that can be added is answered with the card's new length
  pub turn-added : (m k room len : ℕ) → k < m → len + 5 ≤ room → turn_answer m b k d1 d2 (next t) room len ≡ value (len + 5)
  unfolding turn_answer
  turn-added m k room len h space =
      rw (
        lt-ltb k m h,
        not-finished b c.unfinished,
        first-die,
        second-die,
        lt-ltb (place (next t) (switched_ends_of b d1 d2)) (ends_count b d1 d2) place-counted,
        le-ltb room (len + 5) space,
      )

  pub added-record : added_record b d1 d2 (next t) ≡ record_of b t
  added-record = rw (l, s, switched-place)

-- ---- adding a turn

module _ {n m : ℕ} (few : n ≤ 15) {s : List ℤ} (ts : List Turn) (t : Turn) (g : Game n m s (ts ++ (t ∷ []))) (buffer : List ℕ) (len : ℕ)
    (holds : take len buffer ≡ card_of s ts) (room : len + 5 ≤ length buffer) (d1 d2 : ℕ) (l : max d1 d2 ≡ t.larger) (r : min d1 d2 ≡ t.smaller) where
  before : Game n m s ts
  before = game-first ts (t ∷ []) g

  fits : CanAdd (last_board s ts) t
  fits = played-last s ts t g.played

  reads : read_answer n m (take len buffer) ≡ value (length ts)
  reads = ap (read_answer n m) holds ∙ card-read few before

  at_last : board_after (take len buffer) (length ts) ≡ last_board s ts
  at_last = ap (λ (card : List ℕ). board_after card (length ts)) holds ∙ card-positions few before (length ts) (omega arith)

  pub adds : add_answer n m buffer len d1 d2 (next t) ≡ value (len + 5)
  unfolding add_answer
  adds =
      rw (le-ltb (length buffer) len (omega arith), reads, at_last)
      (turn-added (game-last before) t fits d1 d2 l r m (length ts) (length buffer) len (omega (arith, g.few, length-append ts (t ∷ []))) room)

  record_is : added_record (last_from (read_answer n m (take len buffer)) (take len buffer)) d1 d2 (next t) ≡ record_of (last_board s ts) t
  record_is =
      ap (λ (x : Answer). added_record (last_from x (take len buffer)) d1 d2 (next t)) reads
      ∙ ap (λ (b : List ℤ). added_record b d1 d2 (next t)) at_last
      ∙ added-record (game-last before) t fits d1 d2 l r

  -- the card of the longer game, and the bytes after it as they were
  pub added-card : added_in n m buffer len d1 d2 (next t) ≡ card_of s (ts ++ (t ∷ [])) ++ drop (len + 5) buffer
  unfolding added_in
  added-card =
      ap₂ (λ (x : Answer) (bytes : List ℕ). lent_after x buffer len bytes) adds record_is
      ∙ ap (λ (card : List ℕ). (card ++ record_of (last_board s ts) t) ++ drop (len + 5) buffer) holds
      ∙ ap (λ (card : List ℕ). card ++ drop (len + 5) buffer) (sym (card-more s ts t))

  pub added-holds : take (len + 5) (added_in n m buffer len d1 d2 (next t)) ≡ card_of s (ts ++ (t ∷ []))
  added-holds =
      let old = length-card s ts in
      let new = length-card s (ts ++ (t ∷ [])) in
      let held = length-take-le len buffer (omega arith) in
      let same = ap length holds in
      ap (take (len + 5)) added-card
      ∙ take_at (card_of s (ts ++ (t ∷ []))) (drop (len + 5) buffer) (len + 5) (omega (arith, length-append ts (t ∷ [])))

-- ---- the writers called turn by turn

-- the buffer after the turns ts were added to the card in its first `len` bytes
abbrev pub added_all : ℕ → ℕ → List ℕ → ℕ → List Turn → List ℕ
added_all n m buffer len [] = buffer
added_all n m buffer len (t ∷ ts) = added_all n m (added_in n m buffer len t.larger t.smaller (next t)) (len + 5) ts

module _ {n m : ℕ} (few : n ≤ 15) (s : List ℤ) where
  added-all : (ts us : List Turn) (buffer : List ℕ) → Game n m s (us ++ ts) → take (turn_at (length us)) buffer ≡ card_of s us
      → turn_at (length us + length ts) ≤ length buffer
      → added_all n m buffer (turn_at (length us)) ts ≡ card_of s (us ++ ts) ++ drop (turn_at (length us + length ts)) buffer
  added-all [] us buffer g holds room =
      let e : length us + 0 ≡ length us = omega arith in
      sym (take-append-drop (turn_at (length us)) buffer) ∙ rw (e, append-nil us, holds)
  added-all (t ∷ ts) us buffer g holds room =
      let len = turn_at (length us) in
      let h : Game n m s ((us ++ (t ∷ [])) ++ ts) = rw (append_assoc us (t ∷ []) ts) g in
      let o = game-first (us ++ (t ∷ [])) ts h in
      let roll = (played-last s us t o.played).roll in
      let larger : max t.larger t.smaller ≡ t.larger = omega arith in
      let smaller : min t.larger t.smaller ≡ t.smaller = omega arith in
      let space : len + 5 ≤ length buffer = omega arith in
      let next-buffer = added_in n m buffer len t.larger t.smaller (next t) in
      let is = added-card few us t o buffer len holds space t.larger t.smaller larger smaller in
      let bytes = added-holds few us t o buffer len holds space t.larger t.smaller larger smaller in
      let count = length-append us (t ∷ []) in
      let at : turn_at (length (us ++ (t ∷ []))) ≡ len + 5 = omega arith in
      let long = length-card s (us ++ (t ∷ [])) in
      let whole = length-append (card_of s (us ++ (t ∷ []))) (drop (len + 5) buffer) in
      let rest = length-drop (len + 5) buffer in
      let same = ap length is in
      let past : turn_at (length (us ++ (t ∷ [])) + length ts) ≡ length (card_of s (us ++ (t ∷ []))) + 5 * length ts = omega arith in
      let end : len + 5 + 5 * length ts ≡ turn_at (length us + suc (length ts)) = omega arith in
      let ih = added-all ts (us ++ (t ∷ [])) next-buffer h (rw at bytes) (omega arith) in
      (rw at at ih)
      ∙ ap₂ ◌++◌ (ap (card_of s) (append_assoc us (t ∷ []) ts))
      (ap₂ drop past is
      ∙ drop-append-add (card_of s (us ++ (t ∷ []))) (drop (len + 5) buffer) (5 * length ts)
      ∙ drop-drop (5 * length ts) (len + 5) buffer
      ∙ ap (λ (i : ℕ). drop i buffer) end)

  -- they write the card of the game, and leave the bytes after it as they were
  pub written-card : (ts : List Turn) → Game n m s ts → (buffer : List ℕ) → turn_at (length ts) ≤ length buffer
      → added_all n m (begun_in n s buffer) 12 ts ≡ card_of s ts ++ drop (turn_at (length ts)) buffer
  written-card ts g buffer room =
      let a = g.accepted in
      let u = g.unfinished in
      let is = begun-card a u buffer (omega arith) in
      let whole = length-append (card_of s []) (drop 12 buffer) in
      let rest = length-drop 12 buffer in
      let long = length-card s [] in
      let same = ap length is in
      let zero_more : 0 + length ts ≡ length ts = omega arith in
      let past : turn_at (length ts) ≡ length (card_of s []) + 5 * length ts = omega arith in
      let ih = added-all ts [] (begun_in n s buffer) g (begun-holds a u buffer (omega arith)) (omega arith) in
      (rw zero_more at ih)
      ∙ ap (λ (l : List ℕ). card_of s ts ++ l)
      (ap₂ drop past is ∙ drop-append-add (card_of s []) (drop 12 buffer) (5 * length ts) ∙ drop-drop (5 * length ts) 12 buffer)
