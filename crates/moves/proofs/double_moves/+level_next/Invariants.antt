-- The ends of `left` steps are, for each origin in turn, those of the others after a step from there. The loop's invariant: the ends of the
-- origins that are left, each of which can be played, remain to be passed.
use mathlib.Core.Path.{◌≡◌}
use mathlib.Core.Bool.{true}
use mathlib.Core.List.{List}
use Prim.Native.Nat.{ℕ, ◌+◌, ◌*◌}
use Rattle.ints.specs.Bits.{bit}
use Rattle.ints.specs.Masks.{those}
use Rattle.position.specs.Step.{can_step}
use Rattle.rules.specs.Ends.{doubles}
use Rattle.moves.specs.Bytes.{over}
use Rattle.moves.proofs.Passing.{Remain}
use Rattle.moves.proofs.Doubling.{branch}
use Rattle.moves.proofs.double_moves.+level_next.Given as goal

-- the points of a mask, low to high
abbrev pub points : ℕ → List ℕ
points m = those 25 0 (bit m)

abbrev pub decreases-level : goal.decreases-level
decreases-level l = 2 * l.left

abbrev pub decreases-next : goal.decreases-next
decreases-next l = 2 * l.left + 1

abbrev pub invariant-level-loop-p : goal.invariant-level-loop-p
invariant-level-loop-p l =
    ((p : ℕ) → bit l.p-iterator.rest p ≡ true → can_step l.b p l.die ≡ true)
    × Remain (doubles l.die l.left l.top l.b) l.initial.window l.start (over (branch l.b l.die l.left) (points l.p-iterator.rest)) l.window l.n
