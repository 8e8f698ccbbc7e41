-- The code's tests are the definition's, in their order.
use borrow.Author.Rules.{rules}
use mathlib.Core.Path.{◌≡◌, sym, ap, ◌∙◌}
use mathlib.Core.Bool.{true}
use Prim.Native.Nat.{◌-◌, ◌<◌}
use native.Mathlib.Omega.{arith}
use mir.Syntax.{w8}
use Rattle.ints.proofs.Signed.{above-yes, above-no, none-yes, none-no, open_is}
use Rattle.position.specs.Board.{entry, xs}
use Rattle.position.specs.Step.{clear_from}
use Rattle.position.proofs.Steps.{bar_test, can-none, can-bar, can-land, can-off, bar-from, bar-empty, off_from-exact, off_from-over}
use Rattle.position.proofs.can_move.Goals as goal
use Rattle.position.proofs.can_move.Goals.{Joined-from-ne-X_BAR, then-from-ne-X_BAR+else-b-gt0, else-from-ne-X_BAR}

-- where the first tests have passed: x has a checker on the point, and the point is 25 or x's bar is empty
module _ (c : Joined-from-ne-X_BAR) where
  has : 0 < xs c.args.b.now c.args.from
  has =
      let a = c.args in
      none-no w8 (entry a.b.now a.from) (search rules) c.if-b-from-lt1.false

  bar : bar_test c.args.b.now c.args.from c.args.die ≡ true
  bar =
      let a = c.args in
      let b = a.b.now in
      elim c.if-from-ne-X_BAR.branch [
        | then-from-ne-X_BAR+else-b-gt0 w ↦ bar-empty b a.from a.die w.if-from-ne-X_BAR.true (above-no w8 (entry b 25) (search rules) w.if-b-gt0.false)
        | else-from-ne-X_BAR w ↦ bar-from b a.from a.die w.if-from-ne-X_BAR.false has
      ]

pub returns-then-b-from-lt1 : goal.returns-then-b-from-lt1
returns-then-b-from-lt1 c =
    let a = c.args in
    let b = a.b.now in
    sym (can-none b a.from a.die (none-yes w8 (entry b a.from) (search rules) c.if-b-from-lt1.true))

pub returns-then-b-gt0 : goal.returns-then-b-gt0
returns-then-b-gt0 c =
    let a = c.args in
    let b = a.b.now in
    sym (can-bar b a.from a.die c.if-from-ne-X_BAR.true (above-yes w8 (entry b 25) (search rules) c.if-b-gt0.true))

pub returns-then-die-from : goal.returns-then-die-from
returns-then-die-from c =
    let a = c.args in
    let b = a.b.now in
    open_is w8 (entry b (a.from - a.die)) (search rules)
    ∙ sym (can-land b a.from a.die (has (goal.at.returns-then-die-from c).Joined-from-ne-X_BAR) (bar (goal.at.returns-then-die-from c).Joined-from-ne-X_BAR) c.if-die-from.true)

pub returns-then-from-die : goal.returns-then-from-die
returns-then-from-die c =
    let a = c.args in
    let b = a.b.now in
    let e = c.if-from-die.true in
    c.clear_from.ensures ∙ ap (clear_from b) (sym (off_from-exact a.from a.die e))
    ∙ sym (can-off b a.from a.die (has (goal.at.returns-then-from-die c).Joined-from-ne-X_BAR) (bar (goal.at.returns-then-from-die c).Joined-from-ne-X_BAR) (omega arith))

pub returns : goal.returns
returns c =
    let a = c.args in
    let b = a.b.now in
    let n = c.if-from-die.false in
    c.clear_from-2.ensures ∙ ap (clear_from b) (sym (off_from-over a.from a.die (omega arith)))
    ∙ sym (can-off b a.from a.die (has (goal.at.returns c).Joined-from-ne-X_BAR) (bar (goal.at.returns c).Joined-from-ne-X_BAR) (omega arith))
