-- The choice of the steps of a mixed roll, as the code's tests go.
-- Assumes nothing.
use mathlib.Core.Path.{◌≡◌}
use mathlib.Core.Bool.{Bool, cond}
use mathlib.Core.List.{List, [], ◌∷◌}
use Prim.Native.Nat.{ℕ, ◌-◌}
use native.Mathlib.Omega.{arith}
use borrow.Author.Tests.{eq-eqb, ne_eqb}
use lib.IntN.{ℤ}
use lib.Pointwise.{pointwise, pointwise_decides}
use Rattle.std.specs.Prelude.{None, Some}
use Rattle.std.specs.Ordering.{int_eq}
use Rattle.std.proofs.lemmas.Bool.Decides.{same_from_decides, Decides-int_eq}
use Rattle.rules.specs.Ends.{same_board}
use Rattle.rules.proofs.Lists.{same_board-is, same_board-self}
use Rattle.bg_move.specs.declared.Step.{Step}
use Rattle.bg_move.proofs.Losses.{some-point, none-point}
use Rattle.bg_move.specs.Steps.{lost, lost_next, point, leads, leads_both, told, two, one_checker, two_checkers, mixed_steps}

-- `==` of boards
pub equal-boards : (b e : List ℤ) → pointwise int_eq b e ≡ same_board b e
equal-boards b e =
    same_from_decides (pointwise int_eq b e) (same_board b e) (pointwise_decides Decides-int_eq b e)
    (same_board-is b e, λ q. rw (← q) (same_board-self b))

-- the steps of the first of these that passes a test, else r
abbrev pub first_of : {A : Type 0} → (A → Bool) → (A → List Step) → List Step → List A → List Step
first_of test made r [] = r
first_of test made r (m ∷ ms) = cond (test m) (made m) (first_of test made r ms)

-- one checker's steps: by both dice in one order or the other, or by one of them
module _ (b e : List ℤ) (f : ℕ) where
  abbrev pub both_from : List Step → List (ℕ × ℕ) → List Step
  both_from = first_of (λ m. leads_both b f m.0 (f - m.0) m.1 e) (λ m. two f m.0 (f - m.0) m.1)

  abbrev pub one_from : List ℕ → List Step
  one_from = first_of (λ d. leads b f d e) (λ d. told f d ∷ []) []

-- two checkers' steps: a point and a die, and then another point and die
abbrev pub pair_of : List ℤ → List ℤ → List (ℕ × ℕ × ℕ × ℕ) → List Step
pair_of b e = first_of (λ m. leads_both b m.0 m.1 m.2 m.3 e) (λ m. two m.0 m.1 m.2 m.3) []

-- the whole: by the points that lost the first checker and the second
module _ (b e : List ℤ) (s l : ℕ) where
  pub mixed-none : None ≡ point (lost b e 26) → [] ≡ mixed_steps b e s l
  unfolding mixed_steps
  mixed-none h = rw (eq-eqb (lost b e 26) 0 (none-point (lost b e 26) h))

  module _ (f : ℕ) (first : Some f ≡ point (lost b e 26)) where
    pub mixed_one : None ≡ point (lost_next b e f) → one_checker b e f s l ≡ mixed_steps b e s l
    unfolding mixed_steps
    mixed_one h =
        let p = some-point (lost b e 26) f first in
        rw (← p.1, ne_eqb f 0 (λ z. omega arith), eq-eqb (lost_next b e f) 0 (none-point (lost_next b e f) h))

    pub mixed_two : (g : ℕ) → Some g ≡ point (lost_next b e f) → two_checkers b e f g s l ≡ mixed_steps b e s l
    unfolding mixed_steps
    mixed_two g second =
        let p = some-point (lost b e 26) f first in
        let q = some-point (lost_next b e f) g second in
        rw (← p.1, ne_eqb f 0 (λ z. omega arith), ← q.1, ne_eqb g 0 (λ z. omega arith))
