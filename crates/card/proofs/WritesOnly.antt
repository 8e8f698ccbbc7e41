-- The writers write nothing but cards of games: a card is begun exactly for an accepted, unfinished start, and a turn is added exactly where
-- the longer game is one, with room enough. Stated over the number n of checkers a side, at most fifteen, and the number m of turns.
-- Assumes nothing.
use mathlib.Core.Path.{◌≡◌, refl, sym, ap, ap₂, ◌∙◌}
use mathlib.Core.Bool.{Bool, true, false, cond, ◌&&◌}
use mathlib.Core.List.{List, [], ◌∷◌, ◌++◌}
use mathlib.Core.Logic.{◌↔◌}
use Prim.Native.Nat.{ℕ, ◌+◌, ◌≤◌, ◌<◌, min, max}
use native.Mathlib.Omega.{arith}
use lib.Dec.{ltb}
use lib.IntN.{ℤ}
use lib.ListN.{length, take}
use borrow.Author.Tests.{ltb-true, ltb-false}
use Rattle.ints.specs.Answer.{Answer, value, refused}
use Rattle.ints.specs.Bits.{Bytes}
use Rattle.dice.specs.Dice.{is_die}
use Rattle.dice.proofs.TwoDice.{die-range, test-die}
use Rattle.position.specs.Board.{Accepted, start_refusal}
use Rattle.position.proofs.Boards.{unrefused-accepted}
use Rattle.rules.specs.Ends.{switched_ends_of}
use Rattle.moves.specs.Answers.{ends_count}
use Rattle.end_number.specs.Number.{place}
use Rattle.end_number.proofs.Place.{number-legal}
use Rattle.card.specs.Game.{Turn, Unfinished, Game, next}
use Rattle.card.specs.Card.{card_of}
use Rattle.card.specs.Read.{finished, board_after, read_answer}
use Rattle.card.specs.Answers.{begin_answer, turn_answer, add_from, add_answer}
use Rattle.card.proofs.Bytes.{bytes_take}
use Rattle.card.proofs.Records.{no_value}
use Rattle.card.proofs.Starts.{unrefused-start}
use Rattle.card.proofs.Turns.{unfinished-test, legal-by-size}
use Rattle.card.proofs.Reading.{card-positions}
use Rattle.card.proofs.Accepts.{CardOfGame, accepts-games}
use Rattle.card.proofs.Longer.{last_board, game-more, game-last}
use Rattle.card.proofs.Writing.{begins, adds}

-- ---- beginning

-- what holds where a card is begun, with room for it in the buffer, and its length answered
pub record Begins (n : ℕ) (s : List ℤ) (room r : ℕ) : Type 0 where
  pub accepted : Accepted n s
  pub unfinished : Unfinished s
  pub space : 12 ≤ room
  pub new : r ≡ 12

begins-only : (n : ℕ) (s : List ℤ) (room r : ℕ) → length s ≡ 26 → begin_answer n s room ≡ value r → Begins n s room r
unfolding begin_answer
begins-only n s room r size = go (ltb 0 (start_refusal n s)) (ltb room 12) refl refl
  where
    go : (bad short : Bool) → ltb 0 (start_refusal n s) ≡ bad → ltb room 12 ≡ short
        → cond bad (refused (start_refusal n s) 0) (cond short (refused 19 0) (value 12)) ≡ value r → Begins n s room r
    go true short e f g = no_value g
    go false true e f g = no_value g
    go false false e f g =
        let h = ltb-false 0 (start_refusal n s) e in
        let t = unrefused-start n s (omega arith) in
        record { accepted = unrefused-accepted n s size t.0; unfinished = t.1; space = ltb-false room 12 f; new = cc }

pub begins-exactly : (n : ℕ) (s : List ℤ) (room r : ℕ) → length s ≡ 26 → (begin_answer n s room ≡ value r) ↔ Begins n s room r
begins-exactly n s room r size = (
  begins-only n s room r size,
  λ b. begins b.accepted b.unfinished room b.space ∙ ap value (sym b.new),
)

-- ---- adding a turn

-- what holds where a turn is answered with a new length
record Allowed (m : ℕ) (b : List ℤ) (k d1 d2 : ℕ) (e : List ℤ) (room len r : ℕ) : Type 0 where
  more : k < m
  unfinished : Unfinished b
  first : is_die d1 ≡ true
  second : is_die d2 ≡ true
  known : place e (switched_ends_of b d1 d2) < ends_count b d1 d2
  space : len + 5 ≤ room
  new : r ≡ len + 5

allowed : (m : ℕ) (b : List ℤ) (k d1 d2 : ℕ) (e : List ℤ) (room len r : ℕ) → turn_answer m b k d1 d2 e room len ≡ value r → Allowed m b k d1 d2 e room len r
unfolding turn_answer
allowed m b k d1 d2 e room len r =
    go (ltb k m) (finished b) (is_die d1) (is_die d2) (ltb (place e (switched_ends_of b d1 d2)) (ends_count b d1 d2)) (ltb room (len + 5))
    refl refl refl refl refl refl
  where
    go : (more done one two known short : Bool) → ltb k m ≡ more → finished b ≡ done → is_die d1 ≡ one → is_die d2 ≡ two
        → ltb (place e (switched_ends_of b d1 d2)) (ends_count b d1 d2) ≡ known → ltb room (len + 5) ≡ short
        → cond more (cond done (refused 25 0) (cond (one && two) (cond known (cond short (refused 19 0) (value (len + 5))) (refused 12 0)) (refused 7 0))) (refused 22 0) ≡ value r
        → Allowed m b k d1 d2 e room len r
    go false done one two known short e1 e2 e3 e4 e5 e6 q = no_value q
    go true true one two known short e1 e2 e3 e4 e5 e6 q = no_value q
    go true false false two known short e1 e2 e3 e4 e5 e6 q = no_value q
    go true false true false known short e1 e2 e3 e4 e5 e6 q = no_value q
    go true false true true false short e1 e2 e3 e4 e5 e6 q = no_value q
    go true false true true true true e1 e2 e3 e4 e5 e6 q = no_value q
    go true false true true true false e1 e2 e3 e4 e5 e6 q = record {
      more = ltb-true k m e1;
      unfinished = unfinished-test b e2;
      first = e3;
      second = e4;
      known = ltb-true (place e (switched_ends_of b d1 d2)) (ends_count b d1 d2) e5;
      space = ltb-false room (len + 5) e6;
      new = cc;
    }

-- the game whose card the first `len` bytes are, and the turn of the dice and the end, with which it is a game again
pub record AddsTo (n m : ℕ) (buffer : List ℕ) (len d1 d2 : ℕ) (e : List ℤ) (r : ℕ) : Type 0 where
  pub start : List ℤ
  pub turns : List Turn
  pub turn : Turn
  pub game : Game n m start (turns ++ (turn ∷ []))
  pub holds : take len buffer ≡ card_of start turns
  pub larger : max d1 d2 ≡ turn.larger
  pub smaller : min d1 d2 ≡ turn.smaller
  pub end : e ≡ next turn
  pub room : len + 5 ≤ length buffer
  pub new : r ≡ len + 5

module _ {n m : ℕ} (few : n ≤ 15) (buffer : List ℕ) (bytes : Bytes buffer) (len d1 d2 : ℕ) (e : List ℤ) (r : ℕ) where
  at_last : (k : ℕ) (c : CardOfGame n m (take len buffer) k) → board_after (take len buffer) k ≡ last_board c.start c.turns
  at_last k c = ap₂ board_after c.card-is (sym c.count) ∙ card-positions few c.game (length c.turns) (omega arith)

  added-to : (k : ℕ) → CardOfGame n m (take len buffer) k → turn_answer m (board_after (take len buffer) k) k d1 d2 e (length buffer) len ≡ value r
      → AddsTo n m buffer len d1 d2 e r
  added-to k c t =
      let g = c.game in
      let size = c.count in
      let b = last_board c.start c.turns in
      let w = allowed m b k d1 d2 e (length buffer) len r (rw (at_last k c) at t) in
      let f = (number-legal n b d1 d2 (game-last g) (test-die d1 w.first) (test-die d2 w.second) e).0 w.known in
      let one = die-range d1 w.first in
      let two = die-range d2 w.second in
      let turn : Turn = record { larger = max d1 d2; smaller = min d1 d2; stops = f.0 } in
      let k-more = w.more in
      record {
        start = c.start;
        turns = c.turns;
        turn = turn;
        game = game-more turn g (omega arith) (record {
          unfinished = w.unfinished;
          roll = record { low = omega arith; ordered = omega arith; high = omega arith };
          legal = legal-by-size d1 d2 b f.0 f.1;
        });
        holds = c.card-is;
        larger = refl;
        smaller = refl;
        end = f.2;
        room = w.space;
        new = w.new;
      }

  adds-only : add_answer n m buffer len d1 d2 e ≡ value r → AddsTo n m buffer len d1 d2 e r
  unfolding add_answer
  adds-only = go (ltb (length buffer) len) (read_answer n m (take len buffer)) refl
    where
      go : (short : Bool) (read : Answer) → read_answer n m (take len buffer) ≡ read
          → cond short (refused 19 0) (add_from read m (take len buffer) d1 d2 e (length buffer) len) ≡ value r
          → AddsTo n m buffer len d1 d2 e r
      go true read q t = no_value t
      go false (refused number at) q t = no_value t
      go false (value k) q t = added-to k (accepts-games n m (take len buffer) k few (bytes_take len buffer bytes) q) t

  pub adds-exactly : (add_answer n m buffer len d1 d2 e ≡ value r) ↔ AddsTo n m buffer len d1 d2 e r
  adds-exactly = (
    adds-only,
    λ a.
        ap (add_answer n m buffer len d1 d2) a.end
        ∙ adds few a.turns a.turn a.game buffer len a.holds a.room d1 d2 a.larger a.smaller
        ∙ ap value (sym a.new),
  )
