-- The definitions at the card that document 01 prints.
use mathlib.Core.Path.{◌≡◌, refl}
use mathlib.Core.List.{List, [], ◌∷◌, ◌++◌}
use mathlib.Core.Logic.{inl}
use Prim.Native.Nat.{ℕ}
use native.Mathlib.Omega.{arith}
use lib.IntN.{ℤ, pos, negsuc}
use lib.ListN.{take, set, replicate}
use Rattle.ints.specs.Answer.{value, refused}
use Rattle.ints.specs.Bits.{bits_of, digits, bytes_of, number, some}
use Rattle.ints.specs.Sums.{all, values, total, sum_to}
use Rattle.dice.specs.Dice.{is_die, is_byte_in}
use Rattle.dice.specs.Rolls.{rolls}
use Rattle.position.specs.Board.{Accepted, checkers, switched, refusal_of, start_refusal}
use Rattle.position.proofs.Boards.{unrefused-accepted}
use Rattle.position.specs.Step.{can_step, clear_from, off_from, stepped, lifted, landed}
use Rattle.rules.specs.Plays.{LegalEnd}
use Rattle.rules.specs.Ends.{ends_of, switched_ends_of}
use Rattle.rules.proofs.Exact.{accepted-exact}
use Rattle.moves.specs.Answers.{ends_count}
use Rattle.key.specs.Key.{board_of, key_of, key_bits, counts, runs, key_refusal, bits_refusal, board_from, lead, rest, counts_of, rest_of, o_side, x_side}
use Rattle.end_number.specs.Number.{place}
use Rattle.card.specs.Game.{turns_most, Turn, Unfinished, Game}
use Rattle.card.specs.Card.{card_of}
use Rattle.card.specs.Read.{start_record_refusal, turn_refusal, after_turn, board_after, read_from, read_answer}
use Rattle.card.specs.Answers.{begin_answer, begun_in, turn_answer, add_answer, added_in}

-- document 01's card: a lone x on 5 and a lone o on 20, and a turn of 6-1 that bears it off
abbrev card : List ℕ
card =
    0x53 ∷ 0x54 ∷ 0x10 ∷ 0x00 ∷ 0x00 ∷ 0x40 ∷ 0x00 ∷ 0x00 ∷ 0x00 ∷ 0x00 ∷ 0x00 ∷ 0x00
    ∷ 0x54 ∷ 0x55 ∷ 0x61 ∷ 0x00 ∷ 0x00 ∷ []

abbrev lone : List ℤ
lone = set (set (replicate 26 (pos 0)) 20 (negsuc 0)) 5 (pos 1)

abbrev off : Turn
off = record { larger = 6; smaller = 1; stops = set lone 5 (pos 0) }

written : card_of lone (off ∷ []) ≡ card
unfolding key_of key_bits counts runs bytes_of number values ends_of place can_step clear_from off_from all stepped lifted landed
written = refl

is_read : read_answer checkers turns_most card ≡ value 1
unfolding read_answer start_record_refusal key_refusal bits_refusal bits_of digits o_side x_side counts_of rest_of lead rest total some start_refusal refusal_of read_from turn_refusal board_after board_of board_from values is_byte_in rolls ends_count switched_ends_of ends_of can_step clear_from off_from all stepped lifted landed sum_to
is_read = refl

-- it is a finished game: a sixth byte after the turn is no record, and a whole turn is one too many
byte-after : read_answer checkers turns_most (card ++ (0x54 ∷ [])) ≡ refused 23 17
unfolding read_answer start_record_refusal key_refusal bits_refusal bits_of digits o_side x_side counts_of rest_of lead rest total some start_refusal refusal_of read_from turn_refusal board_after after_turn board_of board_from values is_byte_in rolls ends_count switched_ends_of ends_of can_step clear_from off_from all stepped lifted landed sum_to switched
byte-after = refl

turn-after : read_answer checkers turns_most (card ++ (0x54 ∷ 0x55 ∷ 0x61 ∷ 0x00 ∷ 0x00 ∷ [])) ≡ refused 25 17
unfolding read_answer start_record_refusal key_refusal bits_refusal bits_of digits o_side x_side counts_of rest_of lead rest total some start_refusal refusal_of read_from turn_refusal board_after after_turn board_of board_from values is_byte_in rolls ends_count switched_ends_of ends_of can_step clear_from off_from all stepped lifted landed sum_to switched
turn-after = refl

-- a card of one turn at most refuses the second as one too many before it looks at it
one-too-many : read_answer checkers 1 (card ++ (0x00 ∷ [])) ≡ refused 22 17
unfolding read_answer start_record_refusal key_refusal bits_refusal bits_of digits o_side x_side counts_of rest_of lead rest total some start_refusal refusal_of read_from turn_refusal board_after after_turn board_of board_from values is_byte_in rolls ends_count switched_ends_of ends_of can_step clear_from off_from all stepped lifted landed sum_to switched
one-too-many = refl

-- begun in a buffer of 18 bytes and added to, the last byte stays
is-begun : begun_in checkers lone (replicate 18 7) ≡ take 12 card ++ replicate 6 7
unfolding begun_in begin_answer start_refusal refusal_of sum_to key_of key_bits counts runs bytes_of number values
is-begun = refl

is-added : added_in checkers turns_most (take 12 card ++ replicate 6 7) 12 1 6 (switched off.stops) ≡ card ++ (7 ∷ [])
unfolding added_in add_answer turn_answer read_answer start_record_refusal key_refusal bits_refusal bits_of digits o_side x_side counts_of rest_of lead rest total some start_refusal refusal_of read_from turn_refusal board_after after_turn board_of board_from values is_die is_byte_in rolls ends_count switched_ends_of ends_of place can_step clear_from off_from all stepped lifted landed sum_to switched
is-added = refl

-- ---- the same by the rules of play alone: it is the card of a game of one turn

start-accepted : Accepted checkers lone
unfolding refusal_of sum_to
start-accepted = unrefused-accepted checkers lone refl refl

start-unfinished : Unfinished lone
unfolding sum_to
start-unfinished = record { x = omega arith; o = omega arith }

bears-off : LegalEnd lone 6 1 off.stops
unfolding ends_of can_step clear_from off_from all stepped lifted landed
bears-off =
    (accepted-exact start-accepted 6 1 (record { low = omega arith; high = omega arith }) (record { low = omega arith; high = omega arith }) off.stops).0
    (inl refl)

game : Game checkers turns_most lone (off ∷ [])
game = record {
  accepted = start-accepted;
  unfinished = start-unfinished;
  played = (start-unfinished, record { low = omega arith; ordered = omega arith; high = omega arith }, bears-off, tt);
  few = omega arith;
}
