-- The definitions at boards that can be checked by hand.
use mathlib.Core.Path.{◌≡◌, refl}
use mathlib.Core.List.{List, [], ◌∷◌}
use Prim.Native.Nat.{ℕ}
use lib.IntN.{ℤ, pos, negsuc}
use lib.ListN.{set, replicate}
use Rattle.ints.specs.Answer.{refused}
use Rattle.ints.specs.Sums.{sum_to, all}
use Rattle.dice.specs.Dice.{is_die}
use Rattle.position.specs.Board.{checkers, refusal_of, start_refusal}
use Rattle.position.specs.Step.{clear_from, off_from, can_step, lifted, landed, stepped}
use Rattle.position.specs.Phase.{highest}
use Rattle.rules.specs.Ends.{ends_of}
use Rattle.moves.specs.Answers.{play_refusal}
use Rattle.bg_move.specs.declared.Step.{Step}
use Rattle.bg_move.specs.Answers.{recover_refusal, recovered, steps_value, recovered_answer, row_answer, row_after}
use Rattle.bg_move.specs.Steps.{steps_of, lost, lost_next, leads, leads_both, one_checker, two_checkers, mixed_steps, double_steps, told}

-- a lone o on 20, and n checkers of x on p
abbrev board : ℕ → ℕ → List ℤ
board p n = set (set (replicate 26 (pos 0)) 20 (negsuc 0)) p (pos n)

-- one checker uses both dice: the smaller first
smaller-first : steps_of (board 5 1) 6 1 (board 5 0) ≡ told 5 1 ∷ told 4 6 ∷ []
unfolding steps_of lost lost_next leads leads_both one_checker two_checkers mixed_steps double_steps highest can_step stepped clear_from off_from lifted landed all
smaller-first = refl

-- two checkers: the higher by the larger die, if that leads there
larger-first : steps_of (board 13 2) 2 1 (set (board 12 1) 11 (pos 1)) ≡ told 13 2 ∷ told 13 1 ∷ []
unfolding steps_of lost lost_next leads leads_both one_checker two_checkers mixed_steps double_steps highest can_step stepped clear_from off_from lifted landed all
larger-first = refl

-- a double
both-off : steps_of (board 1 2) 6 6 (board 1 0) ≡ told 1 6 ∷ told 1 6 ∷ []
unfolding steps_of lost lost_next leads leads_both one_checker two_checkers mixed_steps double_steps highest can_step stepped clear_from off_from lifted landed all
both-off = refl

-- ---- the answers

-- x enters on neither 19 nor 20: the unchanged board is the end, and there are no steps
abbrev shut_out : List ℤ
shut_out = set (set (board 25 1) 19 (negsuc 1)) 20 (negsuc 1)

nothing-played : recovered_answer checkers shut_out 6 5 shut_out ≡ record { refused = 0; steps = steps_value [] }
unfolding recovered_answer steps_value recover_refusal recovered play_refusal start_refusal refusal_of is_die sum_to ends_of steps_of lost lost_next leads leads_both one_checker two_checkers mixed_steps double_steps highest can_step stepped clear_from off_from lifted landed all
nothing-played = refl

-- where something can be played it is none
not-an-end : recover_refusal checkers (board 13 1) 2 1 (board 13 1) ≡ 12
unfolding recover_refusal recovered play_refusal start_refusal refusal_of is_die sum_to ends_of steps_of lost lost_next leads leads_both one_checker two_checkers mixed_steps double_steps highest can_step stepped clear_from off_from lifted landed all
not-an-end = refl

-- a row of three places for two steps, and a row of one
abbrev row : List Step
row = told 9 0 ∷ told 9 0 ∷ told 9 0 ∷ []

third-stays : row_after checkers (board 5 1) 6 1 (board 5 0) row ≡ told 5 1 ∷ told 4 6 ∷ told 9 0 ∷ []
unfolding row_after recover_refusal recovered play_refusal start_refusal refusal_of is_die sum_to ends_of steps_of lost lost_next leads leads_both one_checker two_checkers mixed_steps double_steps highest can_step stepped clear_from off_from lifted landed all
third-stays = refl

one_place : row_answer checkers (board 5 1) 6 1 (board 5 0) 1 ≡ refused 27 0
unfolding row_answer recover_refusal recovered play_refusal start_refusal refusal_of is_die sum_to ends_of steps_of lost lost_next leads leads_both one_checker two_checkers mixed_steps double_steps highest can_step stepped clear_from off_from lifted landed all
one_place = refl
