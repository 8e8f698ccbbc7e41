-- The number computed at the start board with the roll 3-1.
use mathlib.Core.Path.{◌≡◌, refl}
use mathlib.Core.List.{List}
use lib.IntN.{ℤ, pos}
use lib.ListN.{set}
use Rattle.ints.specs.Answer.{value, refused}
use Rattle.ints.specs.Sums.{sum_to, all, values}
use Rattle.dice.specs.Dice.{is_die}
use Rattle.position.specs.Board.{checkers, start, refusal_of, start_refusal, switched}
use Rattle.position.specs.Step.{can_step, clear_from, off_from, stepped, lifted, landed}
use Rattle.rules.specs.Ends.{switched_ends_of}
use Rattle.moves.specs.Answers.{play_refusal, ends_count}
use Rattle.end_number.specs.Number.{place, number_answer}

-- 8 to 5 and 6 to 5, which makes the five point
abbrev five-point : List ℤ
five-point = set (set (set start 8 (pos 2)) 6 (pos 4)) 5 (pos 2)

five-point-number : number_answer checkers start 3 1 (switched five-point) ≡ value 10
unfolding number_answer play_refusal start_refusal refusal_of sum_to is_die place ends_count switched_ends_of switched values can_step clear_from off_from all stepped lifted landed
five-point-number = refl

-- ends are told with sides switched
five-point-unswitched : number_answer checkers start 3 1 five-point ≡ refused 12 0
unfolding number_answer play_refusal start_refusal refusal_of sum_to is_die place ends_count switched_ends_of switched values can_step clear_from off_from all stepped lifted landed
five-point-unswitched = refl

-- the roll must be played
start-no-end : number_answer checkers start 3 1 start ≡ refused 12 0
unfolding number_answer play_refusal start_refusal refusal_of sum_to is_die place ends_count switched_ends_of switched values can_step clear_from off_from all stepped lifted landed
start-no-end = refl

-- a refusal of the play comes first
no-die : number_answer checkers start 3 7 start ≡ refused 7 0
unfolding number_answer play_refusal start_refusal refusal_of sum_to is_die
no-die = refl
