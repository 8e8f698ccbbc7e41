-- The loop's invariant: no x on the points passed.
use mathlib.Core.Path.{◌≡◌}
use Prim.Native.Nat.{ℕ, ◌≤◌, ◌<◌}
use Rattle.position.specs.Board.{xs}
use Rattle.position.proofs.clear_from.Given as goal

abbrev pub invariant-loop-i : goal.invariant-loop-i
invariant-loop-i l = (k : ℕ) → l.lo ≤ k → k < l.i → xs l.b k ≡ 0
