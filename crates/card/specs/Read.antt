-- How a card is read, record by record (document 01, "Game card"): any bytes are put to it.
use Rattle.std.specs.Prelude.{Bool, cond, ◌&&◌, ◌||◌, List, [], ℕ, zero, suc, ◌+◌, ◌*◌, ◌/◌, ◌%◌, ltb, eqb, ℤ, length, get_or, take, drop}
use Rattle.ints.specs.Answer.{Answer, value, refused}
use Rattle.dice.specs.Rolls.{rolls}
use Rattle.dice.specs.Dice.{is_byte_in}
use Rattle.position.specs.Board.{x_all, o_all, start_refusal}
use Rattle.rules.specs.Ends.{switched_ends_of}
use Rattle.moves.specs.Answers.{ends_count}
use Rattle.key.specs.Key.{key_refusal, board_of}

-- whether the bytes begin with a mark's two
abbrev pub marked : ℕ → ℕ → List ℕ → Bool
marked m1 m2 r = eqb (get_or r 0 0) m1 && eqb (get_or r 1 0) m2

-- "Game card": the key bytes of the start record
abbrev pub start_key : List ℕ → List ℕ
start_key card = take 10 (drop 2 card)

-- "Game card", order of reading: 20 for fewer than 12 bytes, 21 for a wrong mark, the key's refusal, 6, 5; 0 for none
unfoldable pub start_record_refusal : ℕ → List ℕ → ℕ
start_record_refusal n card =
    cond (ltb (length card) 12) 20
    (cond (marked 0x53 0x54 card)
    (cond (ltb 0 (key_refusal n (start_key card))) (key_refusal n (start_key card)) (start_refusal n (board_of (start_key card))))
    21)

-- "Game card": where the record of turn k + 1 begins
abbrev pub turn_at : ℕ → ℕ
turn_at k = 12 + 5 * k

-- "Game card": the dice of a turn record, the larger and the smaller
abbrev pub larger : List ℕ → ℕ
larger r = get_or r 2 0 / 16

abbrev pub smaller : List ℕ → ℕ
smaller r = get_or r 2 0 % 16

-- "Game card": the end's number of a turn record, low byte first
abbrev pub end_number : List ℕ → ℕ
end_number r = get_or r 3 0 + 256 * get_or r 4 0

-- "Refusal numbers" 25: a side has all its checkers off
abbrev pub finished : List ℤ → Bool
finished b = eqb (x_all b) 0 || eqb (o_all b) 0

-- "Game card", order of reading: a turn from b whose record the bytes r begin with: 23 for fewer than 5 bytes, 24 for a wrong mark,
-- 25 after a finish, 26 for a byte that is no dice byte, 11 for a number that is no end's; 0 for none
unfoldable pub turn_refusal : List ℤ → List ℕ → ℕ
turn_refusal b r =
    cond (ltb (length r) 5) 23
    (cond (marked 0x54 0x55 r)
    (cond (finished b) 25
    (cond (is_byte_in rolls (get_or r 2 0))
    (cond (ltb (end_number r) (ends_count b (larger r) (smaller r))) 0 11)
    26))
    24)

-- "Game card": the board after the turn whose record the bytes r begin with, and its switch
unfoldable pub after_turn : List ℤ → List ℕ → List ℤ
after_turn b r = get_or (switched_ends_of b (larger r) (smaller r)) (end_number r) []

-- "Game card": position k of a card, 0 the start, k the board after turn k and its switch
unfoldable pub board_after : List ℕ → ℕ → List ℤ
board_after card zero = board_of (start_key card)
board_after card (suc k) = after_turn (board_after card k) (drop (turn_at k) card)

-- "Game card": reading goes on after k turns, when `left` more are allowed: the number of turns where the card ends here, else 22 where
-- no more are allowed, else the refusal of the next turn, each with the record's first byte, else on to the turn after it
unfoldable pub read_from : ℕ → List ℕ → ℕ → Answer
read_from zero card k = cond (ltb (turn_at k) (length card)) (refused 22 (turn_at k)) (value k)
read_from (suc left) card k =
    let refusal = turn_refusal (board_after card k) (drop (turn_at k) card) in
    cond (ltb (turn_at k) (length card)) (cond (ltb 0 refusal) (refused refusal (turn_at k)) (read_from left card (suc k))) (value k)

-- "Game card": reading a card of at most m turns, with n checkers a side, answers the number of turns
unfoldable pub read_answer : ℕ → ℕ → List ℕ → Answer
read_answer n m card =
    cond (ltb 0 (start_record_refusal n card)) (refused (start_record_refusal n card) 0) (read_from m card 0)
