-- What an answer carries is small: a number of turns, a place in a card, or a card's new length.
-- Assumes nothing.
use mathlib.Core.Bool.{Bool, cond, ◌&&◌}
use mathlib.Core.List.{List}
use Prim.Native.Nat.{ℕ, ◌+◌, ◌≤◌}
use native.Mathlib.Omega.{arith}
use borrow.Author.Tests.{ltb-false}
use lib.Dec.{ltb}
use lib.IntN.{ℤ}
use lib.ListN.{length, take}
use lib.Seq.{length-take-le}
use Rattle.ints.specs.Answer.{Answer, value, refused, carried}
use Rattle.ints.proofs.Tests.{by_cond}
use Rattle.dice.specs.Dice.{is_die}
use Rattle.position.specs.Board.{start_refusal}
use Rattle.rules.specs.Ends.{switched_ends_of}
use Rattle.moves.specs.Answers.{ends_count}
use Rattle.end_number.specs.Number.{place}
use Rattle.card.specs.Read.{turn_at, finished, board_after, read_answer}
use Rattle.card.specs.Answers.{no_position, position_from, position_answer, begin_answer, turn_answer, add_from, add_answer}
use Rattle.card.proofs.Refusals.{FirstRefusal, in_start, in-turn, too_many, Tells, answer-tells}

-- either of two answers
carries : (t : Bool) (a b : Answer) (k : ℕ) → carried a ≤ k → carried b ≤ k → carried (cond t a b) ≤ k
carries t a b k h g = by_cond t a b (λ x. carried x ≤ k) (λ e. h) (λ e. g)

-- a refusal's place
refused-at : {n m : ℕ} {card : List ℕ} {r p : ℕ} → FirstRefusal n m card r p → p ≤ turn_at m
refused-at (in_start e l q) = omega arith
refused-at (in-turn k s l h e z q) = omega arith
refused-at (too_many s h e q) = omega arith

pub read-carries : (n m : ℕ) (card : List ℕ) → carried (read_answer n m card) ≤ turn_at m
read-carries n m card = go (read_answer n m card) (answer-tells n m card)
  where
    go : (a : Answer) → Tells n m card a → carried a ≤ turn_at m
    go (value k) t = let few = t.few in omega arith
    go (refused r p) t = refused-at t

pub position-carries : (n m : ℕ) (card : List ℕ) (k : ℕ) → (position_answer n m card k).at ≤ turn_at m
unfolding position_answer
position-carries n m card k = go (read_answer n m card) (answer-tells n m card)
  where
    go : (a : Answer) → Tells n m card a → (position_from a card k).at ≤ turn_at m
    go (value t) s =
        by_cond (ltb t k) (no_position 36 0) (record { refused = 0; «at» = 0; board = board_after card k }) (λ x. x.at ≤ turn_at m) (λ e. omega arith)
        (λ e. omega arith)
    go (refused r p) s = refused-at s

pub begin-carries : (n : ℕ) (b : List ℤ) (room : ℕ) → carried (begin_answer n b room) ≤ 12
unfolding begin_answer
begin-carries n b room =
    carries (ltb 0 (start_refusal n b)) (refused (start_refusal n b) 0) _ 12 (omega arith)
    (carries (ltb room 12) (refused 19 0) (value 12) 12 (omega arith) (omega arith))

turn-carries : (m : ℕ) (b : List ℤ) (k d1 d2 : ℕ) (e : List ℤ) (room len : ℕ) → carried (turn_answer m b k d1 d2 e room len) ≤ len + 5
unfolding turn_answer
turn-carries m b k d1 d2 e room len =
    carries (ltb k m) _ (refused 22 0) (len + 5)
    (carries (finished b) (refused 25 0) _ (len + 5) (omega arith)
    (carries (is_die d1 && is_die d2) _ (refused 7 0) (len + 5)
    (carries (ltb (place e (switched_ends_of b d1 d2)) (ends_count b d1 d2)) _ (refused 12 0) (len + 5)
    (carries (ltb room (len + 5)) (refused 19 0) (value (len + 5)) (len + 5) (omega arith) (omega arith)) (omega arith))
    (omega arith)))
    (omega arith)

pub add-carries : (n m : ℕ) (buffer : List ℕ) (len d1 d2 : ℕ) (e : List ℤ) → carried (add_answer n m buffer len d1 d2 e) ≤ turn_at m + 5
unfolding add_answer
add-carries n m buffer len d1 d2 e =
    by_cond (ltb (length buffer) len) (refused 19 0) _ (λ x. carried x ≤ turn_at m + 5) (λ t. omega arith)
    (λ t. go (ltb-false (length buffer) len t) (read_answer n m (take len buffer)) (answer-tells n m (take len buffer)))
  where
    go : len ≤ length buffer → (a : Answer) → Tells n m (take len buffer) a → carried (add_from a m (take len buffer) d1 d2 e (length buffer) len) ≤ turn_at m + 5
    go h (value k) t =
        let few = t.few in
        let ended = t.ended in
        omega (arith, length-take-le len buffer h, turn-carries m (board_after (take len buffer) k) k d1 d2 e (length buffer) len)
    go h (refused r p) t = omega (arith, refused-at t)
