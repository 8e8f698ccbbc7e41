-- What is told of the starred boards of document 01, "Boards to try", as one list; `starred` (proofs/Starred.antt) proves all of it at once.
use Rattle.std.specs.Prelude.{◌≡◌, ◌↔◌, List, [], ◌∷◌, ◌++◌, ℕ, ◌≤◌, ℤ, length, drop, replicate}
use Rattle.ints.specs.Answer.{value, refused}
use Rattle.position.specs.Board.{checkers, start}
use Rattle.position.specs.Answers.{no_board}
use Rattle.position.specs.Words.{blank, x, o}
use Rattle.rules.specs.Plays.{LegalEnd}
use Rattle.rules.specs.Ends.{ends_of, In}
use Rattle.moves.specs.Answers.{list_answer, listed_in}
use Rattle.key.specs.Key.{board_of_key_answer}
use Rattle.bg_move.specs.declared.Step.{Step}
use Rattle.bg_move.specs.Answers.{row_answer, row_after}

-- a step from p to t; 25 is the bar, 0 is off
abbrev pub step : ℕ → ℕ → Step
step p t = record { from = p; to = t }

pub data Case : Type 0 where
  -- number, board, dice, and the ends in list order, from the mover's side
  ends : ℕ → List ℤ → ℕ → ℕ → List (List ℤ) → Case
  -- number, board, dice, end, and the steps that recovery writes
  steps : ℕ → List ℤ → ℕ → ℕ → List ℤ → List Step → Case
  -- number, board, dice, second board, and the refusal of recovery
  recovery_refused : ℕ → List ℤ → ℕ → ℕ → List ℤ → ℕ → Case
  -- number, board, and the refusal of its listing, whatever the dice
  listing_refused : ℕ → List ℤ → ℕ → Case
  -- number, a key's bytes, and their refusal
  key_refused : ℕ → List ℕ → ℕ → Case

-- ends: the list has these in this order, and by the rules of play alone they are the legal ones
-- steps: in any lent row with a place for each, recovery answers their number, and they stand there before what stood in the other places
-- a recovery refused: for any lent row, the answer is the refusal alone, and the row stays
-- a listing refused: for any dice and any lent list, the answer is the refusal alone, and the list stays
-- a key refused: the answer is the refusal alone, beside zeros for a board
abbrev pub Told : Case → Type 0
Told (ends number b d1 d2 es) = (ends_of b d1 d2 ≡ es) × ((e : List ℤ) → In e es ↔ LegalEnd b d1 d2 e)
Told (steps number b d1 d2 e ts) =
    (row : List Step) → length ts ≤ length row
    → (row_answer checkers b d1 d2 e (length row) ≡ value (length ts)) × (row_after checkers b d1 d2 e row ≡ ts ++ drop (length ts) row)
Told (recovery_refused number b d1 d2 e k) =
    (row : List Step) → (row_answer checkers b d1 d2 e (length row) ≡ refused k 0) × (row_after checkers b d1 d2 e row ≡ row)
Told (listing_refused number b k) =
    (d1 d2 : ℕ) (out : List ℕ) → (list_answer checkers b d1 d2 (length out) ≡ refused k 0) × (listed_in checkers b d1 d2 out ≡ out)
Told (key_refused number bytes k) = board_of_key_answer checkers bytes ≡ record { refused = k; board = no_board }

abbrev pub number_of : Case → ℕ
number_of (ends number b d1 d2 es) = number
number_of (steps number b d1 d2 e ts) = number
number_of (recovery_refused number b d1 d2 e k) = number
number_of (listing_refused number b k) = number
number_of (key_refused number bytes k) = number

abbrev pub All : (Case → Type 0) → List Case → Type 0
All P [] = Unit {0}
All P (c ∷ cs) = P c × All P cs

abbrev pub cases : List Case
cases =
    ends 1 (x 5 1 (o 20 1 blank)) 6 1 (o 20 1 blank ∷ [])
    ∷ steps 1 (x 5 1 (o 20 1 blank)) 6 1 (o 20 1 blank) (step 5 4 ∷ step 4 0 ∷ [])
    ∷ ends 2 (x 5 1 (o 20 1 (o 4 1 blank))) 6 1 (o 20 1 (o 0 1 blank) ∷ [])
    ∷ ends 3 (x 25 5 (o 10 1 blank)) 3 3 (x 22 4 (x 25 1 (o 10 1 blank)) ∷ [])
    ∷ ends 4 (x 25 1 (o 14 2 blank)) 6 5 (x 19 1 (o 14 2 blank) ∷ [])
    ∷ ends 5 (x 25 1 (o 19 2 (o 20 2 blank))) 6 5 (x 25 1 (o 19 2 (o 20 2 blank)) ∷ [])
    ∷ steps 5 (x 25 1 (o 19 2 (o 20 2 blank))) 6 5 (x 25 1 (o 19 2 (o 20 2 blank))) []
    ∷ ends 6 (x 13 1 (o 2 2 blank)) 6 5 (x 7 1 (o 2 2 blank) ∷ [])
    ∷ ends 7 (x 13 1 (o 12 1 blank)) 2 1 (x 10 1 (o 0 1 blank) ∷ x 10 1 (o 12 1 blank) ∷ [])
    ∷ ends 8 (x 13 1 (o 20 1 blank)) 2 1 (x 10 1 (o 20 1 blank) ∷ [])
    ∷ ends 9 (x 1 2 (o 20 1 blank)) 6 6 (o 20 1 blank ∷ [])
    ∷ steps 9 (x 1 2 (o 20 1 blank)) 6 6 (o 20 1 blank) (step 1 0 ∷ step 1 0 ∷ [])
    ∷ recovery_refused 10 start 3 1 start 12
    ∷ listing_refused 11 blank 6
    ∷ key_refused 12 (replicate 10 0xFF) 15
    ∷ []
