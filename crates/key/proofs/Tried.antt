-- The definitions computed at closed boards and keys (document 01, "Key", "Boards to try" and "Game card"; the manual's examples).
use mathlib.Core.Path.{◌≡◌, refl}
use mathlib.Core.List.{List, [], ◌∷◌}
use Prim.Native.Nat.{ℕ}
use lib.IntN.{ℤ}
use lib.ListN.{replicate}
use Rattle.ints.specs.Bits.{digits, number, bits_of, bytes_of, some}
use Rattle.ints.specs.Sums.{sum_to, values, total}
use Rattle.position.specs.Board.{checkers, start, refusal_of, switched}
use Rattle.position.specs.Step.{lifted, landed, stepped}
use Rattle.position.specs.Phase.{phase_of}
use Rattle.position.specs.Answers.{board_answer}
use Rattle.position.specs.Words.{blank, x, o}
use Rattle.key.specs.Key.{counts, runs, key_bits, key_of, key_answer, lead, rest, counts_of, rest_of, o_side, x_side, bits_refusal, key_refusal, board_from, board_of, board_of_key_answer}

abbrev start-key : List ℕ
start-key = 0xE0 ∷ 0x73 ∷ 0xF0 ∷ 0x01 ∷ 0x30 ∷ 0xE0 ∷ 0x73 ∷ 0xF0 ∷ 0x01 ∷ 0x30 ∷ []

start-written : key_answer checkers start ≡ record { refused = 0; key = start-key }
unfolding key_answer refusal_of sum_to key_of key_bits counts values runs bytes_of number
start-written = refl

start-read : board_of_key_answer checkers start-key ≡ record { refused = 0; board = start }
unfolding board_of_key_answer board_answer key_refusal bits_refusal board_of board_from values total some o_side x_side counts_of rest_of lead rest bits_of digits
start-read = refl

-- a refused board has no key
sixteen-refused : key_answer checkers (x 6 16 blank) ≡ record { refused = 1; key = replicate 10 0 }
unfolding key_answer refusal_of sum_to
sixteen-refused = refl

-- ten bytes FF: 15
all_ones : key_refusal checkers (replicate 10 255) ≡ 15
unfolding key_refusal bits_refusal total some o_side x_side counts_of rest_of lead rest bits_of digits
all_ones = refl

-- the three other refusals: x's sixteen checkers on point 1, both sides on point 24, and the last bit of a key without checkers
sixteenth : key_refusal checkers (0x00 ∷ 0x00 ∷ 0x00 ∷ 0xFE ∷ 0xFF ∷ 0x01 ∷ 0x00 ∷ 0x00 ∷ 0x00 ∷ 0x00 ∷ []) ≡ 16
unfolding key_refusal bits_refusal total some o_side x_side counts_of rest_of lead rest bits_of digits
sixteenth = refl

one-point : key_refusal checkers (0x01 ∷ 0x00 ∷ 0x00 ∷ 0x00 ∷ 0x00 ∷ 0x00 ∷ 0x02 ∷ 0x00 ∷ 0x00 ∷ 0x00 ∷ []) ≡ 17
unfolding key_refusal bits_refusal values total some o_side x_side counts_of rest_of lead rest bits_of digits
one-point = refl

last_bit : key_refusal checkers (0x00 ∷ 0x00 ∷ 0x00 ∷ 0x00 ∷ 0x00 ∷ 0x00 ∷ 0x00 ∷ 0x00 ∷ 0x00 ∷ 0x80 ∷ []) ≡ 18
unfolding key_refusal bits_refusal values total some o_side x_side counts_of rest_of lead rest bits_of digits
last_bit = refl

-- the manual's three checkers a side: x 24:1, 17:1, 15:1 and o 12:2, 2:1
hypergammon : key_of (o 2 1 (o 12 2 (x 15 1 (x 17 1 (x 24 1 blank)))))
    ≡ 0x00 ∷ 0x30 ∷ 0x00 ∷ 0x01 ∷ 0x00 ∷ 0x24 ∷ 0x20 ∷ 0x00 ∷ 0x00 ∷ 0x00 ∷ []
unfolding key_of key_bits counts values runs bytes_of number
hypergammon = refl

-- the card of the game that one turn ends: x alone on 5, o on 20
abbrev lone : List ℤ
lone = o 20 1 (x 5 1 blank)

card-start : board_of (0x10 ∷ 0x00 ∷ 0x00 ∷ 0x40 ∷ 0x00 ∷ 0x00 ∷ 0x00 ∷ 0x00 ∷ 0x00 ∷ 0x00 ∷ []) ≡ lone
unfolding board_of board_from values o_side x_side counts_of rest_of lead rest bits_of digits
card-start = refl

-- its turn by 6-1 takes x off from 5 by 4, and the key after switching is the card's
card-turn : key_of (switched (stepped (stepped lone 5 1) 4 6)) ≡ 0x00 ∷ 0x00 ∷ 0x00 ∷ 0x20 ∷ 0x00 ∷ 0x00 ∷ 0x00 ∷ 0x00 ∷ 0x00 ∷ 0x00 ∷ []
unfolding switched stepped lifted landed key_of key_bits counts values runs bytes_of number
card-turn = refl

-- "result 5": the switched board's mover has lost
card-result : phase_of checkers (switched (stepped (stepped lone 5 1) 4 6)) ≡ 5
unfolding phase_of switched stepped lifted landed values sum_to
card-result = refl
