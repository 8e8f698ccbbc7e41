-- With the from + n - k 1s that are left the bits are what they are to be.
use mathlib.Core.Path.{◌≡◌}
use mathlib.Core.Bool.{true}
use Prim.Native.Nat.{◌+◌, ◌-◌}
use lib.ListN.{replicate}
use Rattle.ints.specs.Bits.{bits_of, merged, Bytes}
use Rattle.key.proofs.set_ones.Given as goal

abbrev pub invariant-loop-k : goal.invariant-loop-k
invariant-loop-k l =
    (merged (bits_of l.key) l.k (replicate (l.from + l.n - l.k) true) ≡ merged (bits_of l.initial.key) l.from (replicate l.n true)) × Bytes l.key
