-- The rows still to come, stored, are what all rows stored at the start would be.
use mathlib.Core.Path.{◌≡◌}
use mathlib.Core.List.{map}
use Prim.Native.Nat.{◌+◌, ◌*◌}
use lib.ListN.{drop}
use lib.Seq.{sets}
use Rattle.inputs.specs.Inputs.{bits, fours}
use Rattle.inputs.proofs.fill.Given as goal

abbrev pub invariant-loop-k : goal.invariant-loop-k
invariant-loop-k g l =
    sets l.out (2 + 4 * l.k) (map bits (fours (drop l.k (g.N.Net.counts l.b)))) ≡ sets l.initial.out 2 (map bits (fours (g.N.Net.counts l.b)))
