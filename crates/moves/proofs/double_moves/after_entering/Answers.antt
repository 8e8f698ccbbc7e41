use mathlib.Core.Path.{◌≡◌, refl, sym, ◌∙◌}
use mathlib.Core.Bool.{true}
use Prim.Native.Nat.{◌+◌, ◌-◌, ◌*◌}
use native.Mathlib.Omega.{arith}
use Rattle.ints.proofs.Signed.{small-more}
use Rattle.position.specs.Step.{can_step, stepped}
use Rattle.position.proofs.Steps.{test-legal}
use Rattle.position.proofs.StepCode.{small-stepped}
use Rattle.rules.specs.Ends.{most}
use Rattle.rules.proofs.Two.{can-good}
use Rattle.moves.proofs.Doubling.{most-entered, most-blocked}
use Rattle.moves.proofs.double_moves.after_entering.Goals as goal

pub loop-left-preserved : goal.loop-left-preserved
loop-left-preserved c =
    let b = c.loop-left.board in
    let d = c.args.die in
    let k = c.loop-left.left in
    let i = c.loop-left.invariant in
    let few = i.few in
    let can : can_step b 25 d ≡ true = sym c.can_move.ensures ∙ c.if-not-can_move.false in
    rw c.move_single_checker-board.ensures record {
      good = can-good b 25 d i.good can;
      small = small-more (23 - 2 * k + 2) (23 - 2 * (k - 1)) (stepped b 25 d) (omega arith) (small-stepped (23 - 2 * k) b 25 d i.small);
      few = omega arith;
      same = i.same ∙ most-entered d b ((test-legal b 25 d can).has) can k (omega arith);
    }

pub returns : goal.returns
unfolding most
returns c =
    let e : c.loop-left.left ≡ 0 = omega arith in
    (rw e at c.loop-left.invariant, λ h. refl)

pub returns-then-not-can_move : goal.returns-then-not-can_move
returns-then-not-can_move c =
    let d = c.args.die in
    let b = c.loop-left.board in
    (c.loop-left.invariant, λ h. most-blocked d b h (sym c.can_move.ensures ∙ c.if-not-can_move.true) c.loop-left.left)
