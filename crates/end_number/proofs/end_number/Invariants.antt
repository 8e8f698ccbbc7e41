-- The loop's invariant: the end has no number below the window's first; the measure is the number of ends from there on.
use mathlib.Core.Path.{◌≡◌}
use Prim.Native.Nat.{◌-◌, ◌≤◌}
use lib.ListN.{length}
use Rattle.rules.specs.Ends.{switched_ends_of}
use Rattle.moves.specs.Answers.{ends_count}
use Rattle.end_number.specs.Number.{place}
use Rattle.end_number.proofs.end_number.Given as goal

abbrev pub invariant-loop-i : goal.invariant-loop-i
invariant-loop-i l =
    (length l.slots ≡ 832) × (l.from ≤ ends_count l.b l.die1 l.die2) × (l.from ≤ place l.end (switched_ends_of l.b l.die1 l.die2))

abbrev pub decreases-loop-i : goal.decreases-loop-i
decreases-loop-i l = ends_count l.b l.die1 l.die2 - l.from
