-- The definitions computed at closed boards (document 01, "Boards to try" and the start board).
use mathlib.Core.Path.{◌≡◌, refl}
use mathlib.Core.Bool.{true}
use mathlib.Core.List.{List}
use lib.IntN.{ℤ}
use Rattle.ints.specs.Answer.{value, refused}
use Rattle.ints.specs.Sums.{sum_to, all, values}
use Rattle.dice.specs.Dice.{is_die}
use Rattle.position.specs.Board.{checkers, start, refusal_of, start_refusal, switched}
use Rattle.position.specs.Step.{clear_from, off_from, can_step, lifted, landed, stepped, step_refusal}
use Rattle.position.specs.Phase.{highest, lowest, phase_of, phase_answer}
use Rattle.position.specs.Words.{blank, x, o}

-- lone x on 5, o on 4 and on 20
abbrev two-blots : List ℤ
two-blots = o 20 1 (o 4 1 (x 5 1 blank))

start-accepted : refusal_of checkers start ≡ 0
unfolding refusal_of sum_to
start-accepted = refl

-- seen from the other side, the start board is itself
start-switched : switched start ≡ start
unfolding switched values
start-switched = refl

start-contact : phase_answer checkers start ≡ value 0
unfolding phase_answer refusal_of sum_to phase_of highest lowest
start-contact = refl

empty-refused : phase_answer checkers blank ≡ refused 6 0
unfolding phase_answer refusal_of sum_to
empty-refused = refl

-- fifteen checkers of x are accepted, sixteen refused
fifteen : refusal_of checkers (x 6 15 blank) ≡ 0
unfolding refusal_of sum_to
fifteen = refl

sixteen : refusal_of checkers (x 6 16 blank) ≡ 1
unfolding refusal_of sum_to
sixteen = refl

-- the first of two refusals is given
bars-wrong : refusal_of checkers (x 0 1 (o 25 1 blank)) ≡ 3
unfolding refusal_of sum_to
bars-wrong = refl

-- 5 to 4 hits: o's checker goes to o's bar, and x stands on 4
hit : stepped two-blots 5 1 ≡ o 20 1 (o 0 1 (x 4 1 blank))
unfolding stepped lifted landed
hit = refl

-- a 6 bears off from 5, the highest, and not from 4 below it
off : can_step two-blots 5 6 ≡ true
unfolding can_step clear_from off_from all
off = refl

below-the-highest : step_refusal checkers (x 4 1 two-blots) 4 6 ≡ 9
unfolding step_refusal refusal_of sum_to is_die can_step clear_from off_from all
below-the-highest = refl

-- from point 0 the answer is 9, from 26 it is 8, and a die of 7 is refused first
from_zero : step_refusal checkers start 0 1 ≡ 9
unfolding step_refusal refusal_of sum_to is_die can_step
from_zero = refl

from-26 : step_refusal checkers start 26 1 ≡ 8
unfolding step_refusal refusal_of sum_to is_die
from-26 = refl

die-first : step_refusal checkers start 26 7 ≡ 7
unfolding step_refusal refusal_of sum_to is_die
die-first = refl

-- exact bear-off: from 6 by 6 with nothing outside the home board, whatever stands on o's bar; not with x on 7, nor with x on the bar
exact : step_refusal checkers (o 0 2 (x 6 1 blank)) 6 6 ≡ 0
unfolding step_refusal refusal_of sum_to is_die can_step clear_from off_from all
exact = refl

outside : step_refusal checkers (x 7 1 (x 6 1 blank)) 6 6 ≡ 9
unfolding step_refusal refusal_of sum_to is_die can_step clear_from off_from all
outside = refl

on-the-bar : step_refusal checkers (x 25 1 (x 6 1 blank)) 6 6 ≡ 9
unfolding step_refusal refusal_of sum_to is_die can_step
on-the-bar = refl

-- from the bar onto a lone o, and against two
enters : stepped (o 19 1 (x 25 2 blank)) 25 6 ≡ o 0 1 (x 19 1 (x 25 1 blank))
unfolding stepped lifted landed
enters = refl

blocked : step_refusal checkers (o 19 2 (x 25 2 blank)) 25 6 ≡ 9
unfolding step_refusal refusal_of sum_to is_die can_step
blocked = refl

-- the other refusals of a board: o's sixteenth, x on o's bar; and a wrong bar counts with the side whose sign it has
o-sixteen : refusal_of checkers (o 6 16 blank) ≡ 2
unfolding refusal_of sum_to
o-sixteen = refl

x-on-o-bar : refusal_of checkers (x 0 1 blank) ≡ 4
unfolding refusal_of sum_to
x-on-o-bar = refl

sixteen-on-o-bar : refusal_of checkers (x 0 16 blank) ≡ 1
unfolding refusal_of sum_to
sixteen-on-o-bar = refl

-- where a play is asked: the empty board is 6, a side that is all off is 5
nobody : start_refusal checkers blank ≡ 6
unfolding start_refusal refusal_of sum_to
nobody = refl

finished : start_refusal checkers (x 6 1 blank) ≡ 5
unfolding start_refusal refusal_of sum_to
finished = refl

-- result and phase: race, then x's three wins and o's three
race : phase_answer checkers (o 20 1 (x 5 1 blank)) ≡ value 1
unfolding phase_answer refusal_of sum_to phase_of highest lowest
race = refl

win-normal : phase_answer checkers (o 20 14 blank) ≡ value 2
unfolding phase_answer refusal_of sum_to phase_of
win-normal = refl

win-gammon : phase_answer checkers (o 7 15 blank) ≡ value 3
unfolding phase_answer refusal_of sum_to phase_of
win-gammon = refl

win-bg : phase_answer checkers (o 6 15 blank) ≡ value 4
unfolding phase_answer refusal_of sum_to phase_of
win-bg = refl

lose-normal : phase_answer checkers (x 25 14 blank) ≡ value 5
unfolding phase_answer refusal_of sum_to phase_of
lose-normal = refl

lose-gammon : phase_answer checkers (x 18 15 blank) ≡ value 6
unfolding phase_answer refusal_of sum_to phase_of
lose-gammon = refl

lose-bg : phase_answer checkers (x 19 15 blank) ≡ value 7
unfolding phase_answer refusal_of sum_to phase_of
lose-bg = refl
