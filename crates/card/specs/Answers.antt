-- What the card's entries answer, and what they leave in the lent buffer (document 01, "Game card", "Refusal numbers").
use Rattle.std.specs.Prelude.{cond, ◌&&◌, List, ◌++◌, ℕ, ◌+◌, min, max, ltb, ℤ, length, take, drop, Result, Ok, Err}
use Rattle.ints.specs.Answer.{Answer, value, refused}
use Rattle.ints.specs.Refusals.{number, told_with}
use Rattle.ints.specs.declared.refusal.Refused.{Refused}
use Rattle.dice.specs.Dice.{is_die}
use Rattle.position.specs.Board.{start_refusal}
use Rattle.position.specs.Answers.{no_board}
use Rattle.rules.specs.Ends.{switched_ends_of}
use Rattle.moves.specs.Answers.{ends_count}
use Rattle.end_number.specs.Number.{place}
use Rattle.card.specs.Card.{start_record, turn_record}
use Rattle.card.specs.Read.{finished, board_after, read_answer}

-- what an answer says: a number of turns or a new length; or the refusal's number, and the byte where the refused record begins
abbrev pub card_told : Result ℕ Refused → Answer
card_told r = told_with r

-- ---- a position by its number

-- a position of a card; or the refusal's number, where it stands in the card, and zeros
pub record PositionAnswer : Type 0 where
  pub refused : ℕ
  pub «at» : ℕ
  pub board : List ℤ

-- an answer with the refusal k, its place in the card, and zeros
abbrev pub no_position : ℕ → ℕ → PositionAnswer
no_position k at = record { refused = k; «at» = at; board = no_board }

-- what an answer says that is a board or a refusal
abbrev pub position_told : Result (List ℤ) Refused → PositionAnswer
position_told (Ok b) = record { refused = 0; «at» = 0; board = b }
position_told (Err r) = no_position (number r.why) r.carried

-- what the reading of a card makes of position k: its refusal, 36 where the card has fewer turns, or the position
abbrev pub position_from : Answer → List ℕ → ℕ → PositionAnswer
position_from (refused number at) card k = no_position number at
position_from (value turns) card k = cond (ltb turns k) (no_position 36 0) (record { refused = 0; «at» = 0; board = board_after card k })

-- "Game card": the whole card is read first, then 36
unfoldable pub position_answer : ℕ → ℕ → List ℕ → ℕ → PositionAnswer
position_answer n m card k = position_from (read_answer n m card) card k

-- ---- beginning a card

-- "Game card": beginning a card refuses 1 to 4, 6, 5, 19, then writes 12 bytes and answers 12
unfoldable pub begin_answer : ℕ → List ℤ → ℕ → Answer
begin_answer n b room =
    cond (ltb 0 (start_refusal n b)) (refused (start_refusal n b) 0) (cond (ltb room 12) (refused 19 0) (value 12))

-- the bytes of the buffer with those of a record from byte `from` on, where the answer is a value; all as they were where it is refused
abbrev pub lent_after : Answer → List ℕ → ℕ → List ℕ → List ℕ
lent_after (refused number at) buffer from bytes = buffer
lent_after (value len) buffer from bytes = take from buffer ++ bytes ++ drop (from + length bytes) buffer

-- "Game card": the buffer after a card was begun
unfoldable pub begun_in : ℕ → List ℤ → List ℕ → List ℕ
begun_in n b buffer = lent_after (begin_answer n b (length buffer)) buffer 0 (start_record b)

-- ---- adding a turn

-- "Game card": a turn from b after k turns, of m allowed, whose end is given switched: 22, 25, 7, 12, then 19 where the buffer has no room
-- after the card's `len` bytes; or the card's new length
unfoldable pub turn_answer : ℕ → List ℤ → ℕ → ℕ → ℕ → List ℤ → ℕ → ℕ → Answer
turn_answer m b k d1 d2 e room len =
    cond (ltb k m)
    (cond (finished b) (refused 25 0)
    (cond (is_die d1 && is_die d2)
    (cond (ltb (place e (switched_ends_of b d1 d2)) (ends_count b d1 d2))
    (cond (ltb room (len + 5)) (refused 19 0) (value (len + 5)))
    (refused 12 0))
    (refused 7 0)))
    (refused 22 0)

-- what the reading of the card so far makes of adding a turn: its refusal with its place, or what the turn answers
abbrev pub add_from : Answer → ℕ → List ℕ → ℕ → ℕ → List ℤ → ℕ → ℕ → Answer
add_from (refused number at) m card d1 d2 e room len = refused number at
add_from (value k) m card d1 d2 e room len = turn_answer m (board_after card k) k d1 d2 e room len

-- "Game card": adding a turn to the card in the first `len` bytes of the buffer: 19 where the buffer is shorter than that, then the card's
-- refusals with their places, then the turn's
unfoldable pub add_answer : ℕ → ℕ → List ℕ → ℕ → ℕ → ℕ → List ℤ → Answer
add_answer n m buffer len d1 d2 e =
    cond (ltb (length buffer) len) (refused 19 0)
    (add_from (read_answer n m (take len buffer)) m (take len buffer) d1 d2 e (length buffer) len)

-- the board that the next turn of a card is played from
abbrev pub last_from : Answer → List ℕ → List ℤ
last_from (refused number at) card = no_board
last_from (value k) card = board_after card k

-- "Game card": the record of a turn that is added: the dice in their order by size, and the end's place in the list
abbrev pub added_record : List ℤ → ℕ → ℕ → List ℤ → List ℕ
added_record b d1 d2 e = turn_record (max d1 d2) (min d1 d2) (place e (switched_ends_of b d1 d2))

-- "Game card": the buffer after a turn was added: 5 bytes after the card, and all other bytes as they were
unfoldable pub added_in : ℕ → ℕ → List ℕ → ℕ → ℕ → ℕ → List ℤ → List ℕ
added_in n m buffer len d1 d2 e =
    lent_after (add_answer n m buffer len d1 d2 e) buffer len
    (added_record (last_from (read_answer n m (take len buffer)) (take len buffer)) d1 d2 e)
