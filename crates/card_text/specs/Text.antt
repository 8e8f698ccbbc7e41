-- The text that the card program prints (document 01, "Game card"), as bytes.
use Rattle.std.specs.Prelude.{cond, List, [], ◌∷◌, ◌++◌, ℕ, zero, suc, ◌+◌, ◌*◌, ◌/◌, ◌%◌, ltb, length, get_or, drop, Option, None, Some}
use Rattle.ints.specs.Answer.{Answer, value, refused}
use Rattle.position.specs.Phase.{phase_of}
use Rattle.moves.specs.Answers.{ends_count}
use Rattle.key.specs.Key.{key_of}
use Rattle.card.specs.Read.{start_key, turn_at, larger, smaller, end_number, board_after, read_answer}

-- "Game card": hex is in capitals: a digit from 0 to 9, or from A to F
abbrev pub hex_digit : ℕ → ℕ
hex_digit d = cond (ltb d 10) (48 + d) (55 + d)

-- "Game card": a byte in hex
abbrev pub hex_byte : ℕ → List ℕ
hex_byte n = hex_digit (n / 16) ∷ hex_digit (n % 16) ∷ []

-- "Game card": bytes in hex, without spaces
unfoldable pub hex : List ℕ → List ℕ
hex [] = []
hex (n ∷ ns) = hex_byte n ++ hex ns

-- "Game card": other numbers are decimal; here in at most p digits
unfoldable pub digits : ℕ → ℕ → List ℕ
digits zero n = []
digits (suc p) n = cond (ltb n 10) ((48 + n) ∷ []) (digits p (n / 10) ++ ((48 + n % 10) ∷ []))

-- a decimal number below 100,000
abbrev pub decimal : ℕ → List ℕ
decimal n = digits 5 n

-- a space, and the end of a line
abbrev pub space : ℕ
space = 32

abbrev pub newline : ℕ
newline = 10

-- the words `start`, `result`, `refused` and `at`, each with the space after it
abbrev pub start_word : List ℕ
start_word = 115 ∷ 116 ∷ 97 ∷ 114 ∷ 116 ∷ space ∷ []

abbrev pub result_word : List ℕ
result_word = 114 ∷ 101 ∷ 115 ∷ 117 ∷ 108 ∷ 116 ∷ space ∷ []

abbrev pub refused_word : List ℕ
refused_word = 114 ∷ 101 ∷ 102 ∷ 117 ∷ 115 ∷ 101 ∷ 100 ∷ space ∷ []

abbrev pub at_word : List ℕ
at_word = 97 ∷ 116 ∷ space ∷ []

-- "Game card": `start` and the key
unfoldable pub start_line : List ℕ → List ℕ
start_line key = start_word ++ (hex key ++ (newline ∷ []))

-- "Game card": what a turn's line says of its end: end number, number of ends, key after switching
unfoldable pub end_words : ℕ → ℕ → List ℕ → List ℕ
end_words number count key = (space ∷ decimal number) ++ ((space ∷ decimal count) ++ ((space ∷ hex key) ++ (newline ∷ [])))

-- "Game card": a turn's number from 1, dice byte in hex, and its end
unfoldable pub turn_line : ℕ → ℕ → ℕ → ℕ → List ℕ → List ℕ
turn_line turn dice number count key = decimal turn ++ ((space ∷ hex_byte dice) ++ end_words number count key)

-- "Game card": `result` and the last board's number from "Result and phase"
unfoldable pub result_line : ℕ → List ℕ
result_line phase = result_word ++ (decimal phase ++ (newline ∷ []))

-- "Game card": the first byte of a refused record
unfoldable pub place_words : ℕ → List ℕ
place_words at = (space ∷ at_word) ++ (decimal at ++ (newline ∷ []))

-- "Game card": a refused card prints only its refusal's number and the record's first byte
unfoldable pub refused_line : ℕ → ℕ → List ℕ
refused_line number at = refused_word ++ (decimal number ++ place_words at)

-- "Game card": the line of turn k + 1 of a card
unfoldable pub line_of : List ℕ → ℕ → List ℕ
line_of card k =
    let r = drop (turn_at k) card in
    turn_line (suc k) (get_or r 2 0) (end_number r) (ends_count (board_after card k) (larger r) (smaller r)) (key_of (board_after card (suc k)))

-- "Game card": the lines of a card's first turns
unfoldable pub lines_of : List ℕ → ℕ → List ℕ
lines_of card zero = []
lines_of card (suc k) = lines_of card k ++ line_of card k

-- "Game card": what is printed for a card, by its reading
unfoldable pub text_from : ℕ → Answer → List ℕ → List ℕ
text_from n (value turns) card = start_line (start_key card) ++ (lines_of card turns ++ result_line (phase_of n (board_after card turns)))
text_from n (refused number at) card = refused_line number at

-- "Game card": the text of a card of at most m turns, with n checkers a side
unfoldable pub text_of : ℕ → ℕ → List ℕ → List ℕ
text_of n m card = text_from n (read_answer n m card) card

-- ours: room for the text of any card: 27 bytes for the first line, at most 42 a turn, at most 13 for the last
abbrev pub text_room : ℕ → ℕ
text_room m = 40 + 42 * m

-- ours: the number of bytes of a card's text; 0 where the lent memory has not the room for any card's
unfoldable pub text_answer : ℕ → ℕ → List ℕ → ℕ → ℕ
text_answer n m card room = cond (ltb room (text_room m)) 0 (length (text_of n m card))

-- what an answer says: the number of bytes, and 0 where there is none
abbrev pub text_told : Option ℕ → ℕ
text_told None = 0
text_told (Some n) = n

-- ours: the lent memory afterwards: the text, and the bytes after it as they were; all of it as it was where it has not the room
unfoldable pub text_in : ℕ → ℕ → List ℕ → List ℕ → List ℕ
text_in n m card out = cond (ltb (length out) (text_room m)) out (text_of n m card ++ drop (length (text_of n m card)) out)
