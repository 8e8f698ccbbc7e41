-- The entries are small enough that each sum fits, and the stored board is the definition's.
use mathlib.Core.Path.{◌≡◌, ap, ◌∙◌}
use Prim.Native.Nat.{ℕ, ◌-◌}
use native.Mathlib.Omega.{arith}
use lib.IntN.{ℤ}
use mathlib.Core.List.{List}
use Rattle.ints.specs.Signed.{Small}
use Rattle.ints.proofs.Signed.{small-more}
use Rattle.position.specs.Step.{landed, lifted}
use Rattle.position.proofs.StepCode.{lift, lift-is, small-lifted, land-hit, land-more, stepped-on, stepped-off}
use Rattle.position.proofs.step_in_place.Goals as goal
use Rattle.position.proofs.step_in_place.Goals.{Start}

-- the board, and the board without the checker, are small
module _ (c : Start) where
  abbrev to : ℕ
  to = c.args.from - c.args.die

  abbrev left : List ℤ
  left = lift c.args.b.now c.args.from

  small : Small 126 c.args.b.now
  small = small-more 124 126 c.args.b.now (omega arith) c.requires.small

  is : left ≡ lifted c.args.b.now c.args.from
  is = lift-is c.args.b.now c.args.from small

  small-left : Small 126 left
  small-left =
      rw is
      (small-more 125 126 (lifted c.args.b.now c.args.from) (omega arith) (small-lifted 124 c.args.b.now c.requires.small c.args.from))

pub returns-then-b-to : goal.returns-then-b-to
returns-then-b-to c =
    let s = c in
    land-hit (left (goal.at.returns-then-b-to c).Start) (to (goal.at.returns-then-b-to c).Start) (small-left (goal.at.returns-then-b-to c).Start) c.if-b-to.true
    ∙ ap (λ (b : List ℤ). landed b (to (goal.at.returns-then-b-to c).Start)) (is (goal.at.returns-then-b-to c).Start) ∙ stepped-on s.args.b.now s.args.from s.args.die (omega arith)

pub returns-else-b-to : goal.returns-else-b-to
returns-else-b-to c =
    let s = c in
    land-more (left (goal.at.returns-else-b-to c).Start) (to (goal.at.returns-else-b-to c).Start) (small-left (goal.at.returns-else-b-to c).Start) c.if-b-to.false
    ∙ ap (λ (b : List ℤ). landed b (to (goal.at.returns-else-b-to c).Start)) (is (goal.at.returns-else-b-to c).Start) ∙ stepped-on s.args.b.now s.args.from s.args.die (omega arith)

pub returns-else-from-die : goal.returns-else-from-die
returns-else-from-die c =
    let s = c in
    is (goal.at.returns-else-from-die c).Start ∙ stepped-off s.args.b.now s.args.from s.args.die (omega arith)
