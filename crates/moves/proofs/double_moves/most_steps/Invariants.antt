-- The loop's invariant: no end was passed, and the ends of at most `left` steps are those of at most k.
use mathlib.Core.Path.{◌≡◌}
use mathlib.Core.List.{[]}
use Prim.Native.Nat.{◌≤◌}
use Rattle.moves.specs.Bytes.{Took}
use Rattle.rules.specs.Ends.{most}
use Rattle.moves.proofs.double_moves.most_steps.Given as goal

abbrev pub invariant-loop-k : goal.invariant-loop-k
invariant-loop-k l = Took [] l.initial.window 0 0 l.window × (l.k ≤ l.left) × (most l.die l.b l.left ≡ most l.die l.b l.k)
