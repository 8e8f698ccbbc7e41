-- The text of the card that document 01 prints, and of a refused one.
use mathlib.Core.Path.{◌≡◌, refl}
use mathlib.Core.List.{List, [], ◌∷◌}
use Prim.Native.Nat.{ℕ}
use lib.ListN.{take}
use Rattle.ints.specs.Bits.{bits_of, bytes_of, some}
use Rattle.ints.specs.Bits as bits
use Rattle.ints.specs.Sums.{all, values, total, sum_to}
use Rattle.dice.specs.Dice.{is_byte_in}
use Rattle.dice.specs.Rolls.{rolls}
use Rattle.position.specs.Board.{checkers, switched, refusal_of, start_refusal}
use Rattle.position.specs.Step.{can_step, clear_from, off_from, stepped, lifted, landed}
use Rattle.position.specs.Phase.{highest, lowest, phase_of}
use Rattle.rules.specs.Ends.{ends_of, switched_ends_of}
use Rattle.moves.specs.Answers.{ends_count}
use Rattle.key.specs.Key.{board_of, key_of, key_bits, counts, runs, key_refusal, bits_refusal, board_from, lead, rest, counts_of, rest_of, o_side, x_side}
use Rattle.card.specs.Game.{turns_most}
use Rattle.card.specs.Read.{start_record_refusal, turn_refusal, after_turn, board_after, read_from, read_answer}
use Rattle.card_text.specs.Text.{hex, digits, start_line, end_words, turn_line, result_line, place_words, refused_line, line_of, lines_of, text_from, text_of}

-- the 17 bytes
abbrev card : List ℕ
card =
    0x53 ∷ 0x54 ∷ 0x10 ∷ 0x00 ∷ 0x00 ∷ 0x40 ∷ 0x00 ∷ 0x00 ∷ 0x00 ∷ 0x00 ∷ 0x00 ∷ 0x00
    ∷ 0x54 ∷ 0x55 ∷ 0x61 ∷ 0x00 ∷ 0x00 ∷ []

-- `start 10000040000000000000`, `1 61 0 1 00000020000000000000`, `result 5`
printed : text_of checkers turns_most card
    ≡ 115 ∷ 116 ∷ 97 ∷ 114 ∷ 116 ∷ 32 ∷ 49 ∷ 48 ∷ 48 ∷ 48 ∷ 48 ∷ 48 ∷ 52 ∷ 48 ∷ 48 ∷ 48 ∷ 48 ∷ 48 ∷ 48 ∷ 48 ∷ 48 ∷ 48 ∷ 48 ∷ 48 ∷ 48 ∷ 48 ∷ 10
    ∷ 49 ∷ 32 ∷ 54 ∷ 49 ∷ 32 ∷ 48 ∷ 32 ∷ 49 ∷ 32 ∷ 48 ∷ 48 ∷ 48 ∷ 48 ∷ 48 ∷ 48 ∷ 50 ∷ 48 ∷ 48 ∷ 48 ∷ 48 ∷ 48 ∷ 48 ∷ 48 ∷ 48 ∷ 48 ∷ 48 ∷ 48 ∷ 48 ∷ 48 ∷ 10
    ∷ 114 ∷ 101 ∷ 115 ∷ 117 ∷ 108 ∷ 116 ∷ 32 ∷ 53 ∷ 10 ∷ []
unfolding text_of text_from start_line hex lines_of line_of turn_line end_words digits result_line read_answer start_record_refusal key_refusal bits_refusal bits_of bits.digits o_side x_side counts_of rest_of lead rest total some start_refusal refusal_of read_from turn_refusal board_after after_turn board_of board_from values is_byte_in rolls ends_count switched_ends_of ends_of can_step clear_from off_from all stepped lifted landed sum_to switched key_of key_bits counts runs bytes_of bits.number phase_of highest lowest
printed = refl

-- `refused 23 at 12` for a card cut short in its turn
cut_short : text_of checkers turns_most (take 16 card) ≡ 114 ∷ 101 ∷ 102 ∷ 117 ∷ 115 ∷ 101 ∷ 100 ∷ 32 ∷ 50 ∷ 51 ∷ 32 ∷ 97 ∷ 116 ∷ 32 ∷ 49 ∷ 50 ∷ 10 ∷ []
unfolding text_of text_from refused_line place_words digits read_answer start_record_refusal key_refusal bits_refusal bits_of bits.digits o_side x_side counts_of rest_of lead rest total some start_refusal refusal_of read_from turn_refusal board_after board_of board_from values sum_to
cut_short = refl
