-- The loop's invariant: the one sum is x's checkers on the entries passed and 65536 times o's, each of which adds at most 128.
use mathlib.Core.Path.{◌≡◌}
use Prim.Native.Nat.{◌+◌, ◌*◌, ◌≤◌}
use Rattle.ints.specs.Sums.{sum_to}
use Rattle.position.specs.Board.{xs, os}
use Rattle.position.proofs.checkers_below.Given as goal

abbrev pub invariant-loop-e : goal.invariant-loop-e
invariant-loop-e l =
    (sum_to (xs l.b) l.e-index ≤ 128 * l.e-index) × (sum_to (os l.b) l.e-index ≤ 128 * l.e-index)
    × (l.both ≡ sum_to (xs l.b) l.e-index + 65536 * sum_to (os l.b) l.e-index)
