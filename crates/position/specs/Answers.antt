-- What the entries answer (document 01, "Refusal numbers": a refusal's answer holds its number and nothing else).
use Rattle.std.specs.Prelude.{◌≡◌, cond, List, ℕ, eqb, ℤ, pos, replicate, Result, Ok, Err}
use Rattle.ints.specs.Answer.{Answer, value, refused}
use Rattle.ints.specs.Refusals.{number}
use Rattle.ints.specs.declared.refusal.Refusal.{Refusal}
use Rattle.position.specs.Board.{Accepted, x_all, o_all, refusal_of, start_refusal, switched}
use Rattle.position.specs.Step.{stepped, step_refusal}
use Rattle.position.specs.declared.Checkers.{Checkers}
use Rattle.position.specs.declared.Unaccepted.{Unaccepted}
use Rattle.position.specs.declared.phase.GamePhase.{GamePhase}
use Rattle.position.specs.declared.phase.GamePhase.TheVariants.{Contact, Race, WinNormal, WinGammon, WinBg, LoseNormal, LoseGammon, LoseBg}

-- what the check of a board answers: its refusal, and where that is 0 the board is accepted
pub record Judged (n : ℕ) (b : List ℤ) (r : ℕ) : Type 0 where
  pub is : r ≡ refusal_of n b
  pub ok : r ≡ 0 → Accepted n b

-- the same where a play is asked or a card starts
pub record Started (n : ℕ) (b : List ℤ) (r : ℕ) : Type 0 where
  pub is : r ≡ start_refusal n b
  pub ok : r ≡ 0 → Accepted n b

-- the number of a board's refusal, 0 for none
abbrev pub unaccepted_in : Result Checkers Unaccepted → ℕ
unaccepted_in (Ok all) = 0
unaccepted_in (Err u) = number u.why

-- both sides' checkers, of a refused board too
abbrev pub checkers_in : Result Checkers Unaccepted → Checkers
checkers_in (Ok all) = all
checkers_in (Err u) = u.all

-- the check of a board that counts both sides' checkers
pub record Counted (n : ℕ) (b : List ℤ) (r : Result Checkers Unaccepted) : Type 0 where
  pub judged : Judged n b (unaccepted_in r)
  pub x : (checkers_in r).x ≡ x_all b
  pub o : (checkers_in r).o ≡ o_all b

-- a refusal's number, 0 for none, and a board
pub record BoardAnswer : Type 0 where
  pub refused : ℕ
  pub board : List ℤ

-- what stands beside a refusal's number in place of a board: zeros
abbrev pub no_board : List ℤ
no_board = replicate 26 (pos 0)

-- an answer with the refusal k and the board b: where k is not 0, the number alone
unfoldable pub board_answer : ℕ → List ℤ → BoardAnswer
board_answer k b = record { refused = k; board = cond (eqb k 0) b no_board }

-- what each case of an answer says that is a board or a refusal
abbrev pub board_told : Result (List ℤ) Refusal → BoardAnswer
board_told (Ok b) = record { refused = 0; board = b }
board_told (Err r) = record { refused = number r; board = no_board }

-- "Side switch": the switched board, or the board's refusal
unfoldable pub switch_answer : ℕ → List ℤ → BoardAnswer
switch_answer n b = board_answer (refusal_of n b) (switched b)

-- "Steps and ends": a single step answers its board unswitched, or its refusal
unfoldable pub step_answer : ℕ → List ℤ → ℕ → ℕ → BoardAnswer
step_answer n b p d = board_answer (step_refusal n b p d) (stepped b p d)

-- "Result and phase", order of numbers
abbrev pub phase_number : GamePhase → ℕ
phase_number Contact = 0
phase_number Race = 1
phase_number WinNormal = 2
phase_number WinGammon = 3
phase_number WinBg = 4
phase_number LoseNormal = 5
phase_number LoseGammon = 6
phase_number LoseBg = 7

-- "Result and phase": what each case of the answer says
abbrev pub phase_told : Result GamePhase Refusal → Answer
phase_told (Ok p) = value (phase_number p)
phase_told (Err r) = refused (number r) 0
