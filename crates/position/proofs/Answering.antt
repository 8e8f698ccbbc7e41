-- What the entries answer, as the code's tests go.
-- Assumes nothing.
use Rattle.std.proofs.Common.{◌≡◌, refl, sym, ap, ap₂, subst, ◌∙◌, true, false, List, ℕ, ◌≤◌, ◌<◌, ℤ, Result, Ok, Err}
use native.Mathlib.Omega.{arith}
use borrow.Author.Tests.{lt-ltb, le-ltb, ne_eqb}
use Rattle.ints.specs.Refusals.{number}
use Rattle.ints.specs.declared.refusal.Refusal.{Refusal}
use Rattle.ints.proofs.Refusals.{number-pos}
use Rattle.dice.specs.Dice.{is_die}
use Rattle.position.specs.Board.{Accepted, x_all, o_all, refusal_of}
use Rattle.position.specs.Step.{can_step, step_refusal}
use Rattle.position.specs.Answers.{BoardAnswer, Counted, unaccepted_in, no_board, board_answer, board_told}
use Rattle.position.specs.declared.Checkers.{Checkers}
use Rattle.position.specs.declared.Unaccepted.{Unaccepted}

abbrev whole : ℕ → List ℤ → BoardAnswer
whole k b = record { refused = k; board = b }

-- an answer with a number and no board, and one with a board
module _ (r : BoardAnswer) (b : List ℤ) where
  pub refused-is : (k : ℕ) → 0 < k → r.refused ≡ k → r.board ≡ no_board → r ≡ board_answer k b
  unfolding board_answer
  refused-is k h e s = rw (ne_eqb k 0 (λ z. omega arith)) (ap₂ whole e s)

  pub answered-is : r.refused ≡ 0 → r.board ≡ b → r ≡ board_answer 0 b
  unfolding board_answer
  answered-is e s = ap₂ whole e s

-- a board's refusal, told, and a board
pub err-told : (r : Refusal) (b : List ℤ) (k : ℕ) → number r ≡ k → board_told (Err r) ≡ board_answer k b
err-told r b k e = refused-is (board_told (Err r)) b k (omega (arith, e, number-pos r)) e refl

pub ok-told : (b : List ℤ) → board_told (Ok b) ≡ board_answer 0 b
ok-told b = answered-is (board_told (Ok b)) b refl refl

-- what is known where the check of a board is passed
pub record Passed (n : ℕ) (b : List ℤ) (all : Checkers) : Type 0 where
  pub ok : refusal_of n b ≡ 0
  pub accepted : Accepted n b
  pub x : all.x ≡ x_all b
  pub o : all.o ≡ o_all b

module _ {n : ℕ} {b : List ℤ} {r : Result Checkers Unaccepted} (k : Counted n b r) where
  pub passed : {all : Checkers} → r ≡ Ok all → Passed n b all
  passed {all} e =
      let j : Counted n b (Ok all) = subst (Counted n b) e k in
      record { ok = sym j.judged.is; accepted = j.judged.ok refl; x = j.x; o = j.o }

  pub refused-by : {u : Unaccepted} → r ≡ Err u → number u.why ≡ refusal_of n b
  refused-by e = sym (ap unaccepted_in e) ∙ k.judged.is

-- a step's refusal, by the first test that holds
module _ (n : ℕ) (b : List ℤ) (p d : ℕ) where
  pub step-board : 0 < refusal_of n b → refusal_of n b ≡ step_refusal n b p d
  unfolding step_refusal
  step-board h = rw (lt-ltb 0 (refusal_of n b) h)

  module _ (ok : refusal_of n b ≡ 0) where
    pub step-die : is_die d ≡ false → 7 ≡ step_refusal n b p d
    unfolding step_refusal
    step-die e = rw (le-ltb 0 (refusal_of n b) (omega arith), e)

    module _ (die : is_die d ≡ true) where
      pub step-point : 25 < p → 8 ≡ step_refusal n b p d
      unfolding step_refusal
      step-point h = rw (le-ltb 0 (refusal_of n b) (omega arith), die, lt-ltb 25 p h)

      pub step-illegal : p ≤ 25 → can_step b p d ≡ false → 9 ≡ step_refusal n b p d
      unfolding step_refusal
      step-illegal h e = rw (le-ltb 0 (refusal_of n b) (omega arith), die, le-ltb 25 p h, e)

      pub step-made : p ≤ 25 → can_step b p d ≡ true → 0 ≡ step_refusal n b p d
      unfolding step_refusal
      step-made h e = rw (le-ltb 0 (refusal_of n b) (omega arith), die, le-ltb 25 p h, e)
