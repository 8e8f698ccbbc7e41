-- The definitions computed at closed boards (document 01, "Inputs", "Refusal numbers" 13 and 14).
use mathlib.Core.Path.{◌≡◌, refl}
use mathlib.Core.List.{List, [], ◌∷◌, ◌++◌, map}
use Prim.Native.Nat.{ℕ}
use lib.Ieee.{to_bits}
use lib.ListN.{replicate}
use Rattle.ints.specs.Answer.{value, refused}
use Rattle.ints.specs.Sums.{sum_to, values}
use Rattle.position.specs.Board.{checkers, start, refusal_of}
use Rattle.position.specs.Words.{blank, x, o}
use Rattle.inputs.specs.Inputs.{whole, bits, fours, contact_counts, race_counts, inputs_of, contact_inputs, race_inputs}
use Rattle.inputs.specs.Answers.{given, not, fill_answer, place_answer, contact_answer, contact_input, race_answer, race_input}

-- points without checkers, and one with two, three or five
abbrev none : ℕ → List ℕ
none n = replicate n 0

abbrev twos : List ℕ
twos = 0 ∷ 1 ∷ 0 ∷ 0 ∷ []

abbrev threes : List ℕ
threes = 0 ∷ 0 ∷ 1 ∷ 0 ∷ []

abbrev fives : List ℕ
fives = 0 ∷ 0 ∷ 1 ∷ 2 ∷ []

-- the start board: nothing off, x's bar, x on 6, 8, 13 and 24, o on 1, 12, 17 and 19
start-contact : contact_inputs checkers start
    ≡ 0 ∷ 0 ∷ none 4
    ++ none 20 ++ fives ++ none 4 ++ threes ++ none 16 ++ fives ++ none 40 ++ twos
    ++ none 4 ++ twos ++ none 40 ++ fives ++ none 16 ++ threes ++ none 4 ++ fives ++ none 20
unfolding contact_inputs inputs_of contact_counts values fours sum_to
start-contact = refl

-- the race net does not see x on 24 nor o on 1
start-race : race_inputs checkers start
    ≡ 0 ∷ 0 ∷ none 20 ++ fives ++ none 4 ++ threes ++ none 16 ++ fives ++ none 40
    ++ none 40 ++ fives ++ none 16 ++ threes ++ none 4 ++ fives ++ none 20
unfolding race_inputs inputs_of race_counts values fours sum_to
start-race = refl

-- fifteen on x's bar, one on o's
bars : contact_inputs checkers (o 0 1 (x 25 15 blank)) ≡ 0 ∷ 14 ∷ 0 ∷ 0 ∷ 1 ∷ 12 ∷ none 96 ++ 1 ∷ none 99
unfolding contact_inputs inputs_of contact_counts values fours sum_to
bars = refl

-- the empty board is taken: all are off
empty-taken : (contact_answer checkers blank 202 ≡ value 0) × (contact_input checkers blank 1 ≡ given (whole 15))
unfolding contact_answer fill_answer contact_input place_answer contact_inputs inputs_of refusal_of sum_to
empty-taken = (refl, refl)

-- 13 and 14, and a board's refusal before them
refusals : (contact_answer checkers start 186 ≡ refused 13 0)
    × (race_answer checkers start 202 ≡ refused 13 0)
    × (contact_input checkers start 202 ≡ not 14)
    × (race_input checkers start 186 ≡ not 14)
    × (contact_answer checkers (x 6 16 blank) 0 ≡ refused 1 0)
    × (race_input checkers (x 0 1 blank) 186 ≡ not 4)
unfolding contact_answer race_answer fill_answer contact_input race_input place_answer refusal_of sum_to
refusals = (refl, refl, refl, refl, refl, refl)

-- the bits of 0, 1, 2 and 15, as memory holds them
bits-tried : map bits (0 ∷ 1 ∷ 2 ∷ 15 ∷ []) ≡ 0 ∷ 1065353216 ∷ 1073741824 ∷ 1097859072 ∷ []
unfolding bits whole to_bits
bits-tried = refl
