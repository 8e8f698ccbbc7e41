-- The lines of a card's turns one after the other, and the text of a whole card in the lent memory.
-- Assumes nothing.
use mathlib.Core.Path.{◌≡◌, refl, ap, ◌∙◌}
use mathlib.Core.List.{List, [], ◌∷◌, ◌++◌}
use Prim.Native.Nat.{ℕ, zero, suc, ◌+◌, ◌*◌, ◌≤◌, ◌<◌}
use native.Mathlib.Numerals.{add-one}
use native.Mathlib.Omega.{arith}
use borrow.Author.Tests.{lt-ltb, le-ltb}
use lib.IntN.{ℤ}
use lib.ListN.{length, get_or, drop, length-append, length-take}
use lib.Seq.{sets-eq}
use Rattle.ints.specs.Answer.{Answer, value, refused}
use Rattle.position.specs.Board.{checkers}
use Rattle.position.specs.Phase.{phase_of}
use Rattle.moves.specs.Answers.{ends_count}
use Rattle.key.specs.Key.{key_of}
use Rattle.card.specs.Read.{start_key, turn_at, larger, smaller, end_number, board_after, read_answer}
use Rattle.card.proofs.Starts.{length-key}
use Rattle.card.proofs.Refusals.{read-exactly}
use Rattle.card_text.specs.declared.Turn.{Turn}
use Rattle.card_text.specs.declared.Turns.{Turns}
use Rattle.card_text.specs.Text.{hex_byte, hex, decimal, space, newline, at_word, start_line, end_words, turn_line, result_line, place_words, refused_line, line_of, lines_of, text_from, text_room, text_of, text_answer, text_in}
use Rattle.card_text.specs.Turns.{ToldTurn, PutTurns}
use Rattle.card_text.specs.Wrote.{Wrote}
use Rattle.card_text.proofs.Writing.{wrote_none, wrote-more, few-digits, length-hex}

pub lines_start : (card out : List ℕ) (from : ℕ) → Wrote out from (lines_of card 0) from out
unfolding lines_of
lines_start card out from = wrote_none out from

pub lines_next : (card : List ℕ) (k : ℕ) {out mid new : List ℕ} {from to end : ℕ} → Wrote out from (lines_of card k) to mid → Wrote mid to (line_of card k) end new
    → Wrote out from (lines_of card (k + 1)) end new
unfolding lines_of
lines_next card k v w = rw add-one (wrote-more (lines_of card k) (line_of card k) v w)

-- what is told of a turn is its line
pub line-is : (card : List ℕ) (k : ℕ) {b : List ℤ} {t : Turn} {turn : ℕ} {key : List ℕ} → b ≡ board_after card k → ToldTurn b (drop (turn_at k) card) t
    → key ≡ key_of t.after → turn ≡ k + 1 → turn_line turn t.dice t.number t.count key ≡ line_of card k
unfolding line_of board_after
line-is card k e t f g = rw (g, f, t.dice, t.number, t.count, t.after, e, add-one)

pub next-board : (card : List ℕ) (k : ℕ) {b : List ℤ} {t : Turn} → b ≡ board_after card k → ToldTurn b (drop (turn_at k) card) t → t.after ≡ board_after card (k + 1)
unfolding board_after
next-board card k e t = rw add-one (t.after ∙ rw e)

pub short-line : (turn dice number count : ℕ) (key : List ℕ) → length key ≡ 10 → length (turn_line turn dice number count key) ≤ 42
unfolding turn_line end_words
short-line turn dice number count key h =
    let ends = hex key ++ (newline ∷ []) in
    let counts = decimal count ++ (space ∷ ends) in
    let numbers = decimal number ++ (space ∷ counts) in
    let rolls = (space ∷ hex_byte dice) ++ (space ∷ numbers) in
    omega (
      arith,
      length-append (decimal turn) rolls,
      length-append (decimal number) (space ∷ counts),
      length-append (decimal count) (space ∷ ends),
      length-append (hex key) (newline ∷ []),
      few-digits 5 turn,
      few-digits 5 number,
      few-digits 5 count,
      length-hex key,
      h,
    )

pub short-result : (phase : ℕ) → length (result_line phase) ≤ 13
unfolding result_line
short-result phase = omega (arith, length-append (decimal phase) (newline ∷ []), few-digits 5 phase)

pub short-refused : (number place : ℕ) → length (refused_line number place) ≤ 23
unfolding refused_line place_words
short-refused number place =
    let places = decimal place ++ (newline ∷ []) in
    omega (
      arith,
      length-append (decimal number) ((space ∷ at_word) ++ places),
      length-append (decimal place) (newline ∷ []),
      few-digits 5 number,
      few-digits 5 place,
    )

-- ---- the room that a text takes

lines_fit : (card : List ℕ) (k : ℕ) → length (lines_of card k) ≤ 42 * k
unfolding lines_of line_of
lines_fit card zero = omega arith
lines_fit card (suc k) =
    let r = drop (turn_at k) card in
    omega (
      arith,
      lines_fit card k,
      length-append (lines_of card k) (line_of card k),
      short-line (suc k) (get_or r 2 0) (end_number r) (ends_count (board_after card k) (larger r) (smaller r)) (key_of (board_after card (suc k)))
          (length-key (board_after card (suc k))),
    )

start_fits : (card : List ℕ) → length (start_line (start_key card)) ≤ 27
unfolding start_line
start_fits card =
    omega (
      arith,
      length-append (hex (start_key card)) (newline ∷ []),
      length-hex (start_key card),
      length-take 10 (drop 2 card),
    )

-- the text of any card has at most so many bytes
pub text-fits : (m : ℕ) (card : List ℕ) → length (text_of checkers m card) ≤ text_room m
unfolding text_of text_from
text-fits m card = go (read_answer checkers m card) refl
  where
    go : (answer : Answer) → read_answer checkers m card ≡ answer → length (text_from checkers answer card) ≤ text_room m
    go (refused number place) e = omega (arith, short-refused number place)
    go (value turns) e =
        let last = result_line (phase_of checkers (board_after card turns)) in
        omega (
          arith,
          start_fits card,
          lines_fit card turns,
          short-result (phase_of checkers (board_after card turns)),
          length-append (start_line (start_key card)) (lines_of card turns ++ last),
          length-append (lines_of card turns) last,
          ((read-exactly checkers m card turns).0 e).few,
        )

-- ---- the text in the lent memory

-- the first line, the turns' and the last are the text of a card
pub card-put : (card : List ℕ) (turns : ℕ) {out first mid new : List ℕ} {to end : ℕ} {r : Turns} → Wrote out 0 (start_line (start_key card)) to first
    → PutTurns card turns to first r mid → Wrote mid r.at (result_line (phase_of checkers r.last)) end new → Wrote out 0 (text_from checkers (value turns) card) end new
unfolding text_from
card-put card turns v p w =
    let last = result_line (phase_of checkers (board_after card turns)) in
    wrote-more (start_line (start_key card)) (lines_of card turns ++ last) v (wrote-more (lines_of card turns) last p.wrote (rw p.last at w))

pub text-put : (card out : List ℕ) (m : ℕ) {r : ℕ} {new : List ℕ} → text_room m ≤ length out → Wrote out 0 (text_of checkers m card) r new
    → (r ≡ text_answer checkers m card (length out)) × (new ≡ text_in checkers m card out)
unfolding text_answer text_in
text-put card out m h w =
    let text = text_of checkers m card in
    let z : 0 + length text ≡ length text = omega arith in
    rw (le-ltb (length out) (text_room m) h)
    (omega (arith, w.next), w.lent ∙ sets-eq text out 0 (omega (arith, text-fits m card, h)) ∙ ap (λ (j : ℕ). text ++ drop j out) z)

pub text-unput : (card out : List ℕ) (m : ℕ) → length out < text_room m → (0 ≡ text_answer checkers m card (length out)) × (out ≡ text_in checkers m card out)
unfolding text_answer text_in
text-unput card out m h = rw (lt-ltb (length out) (text_room m) h) (refl, refl)
