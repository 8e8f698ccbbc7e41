-- With the runs that are left the bits are those of the key, and they fit.
use mathlib.Core.Path.{◌≡◌}
use Prim.Native.Nat.{◌+◌, ◌-◌, ◌≤◌}
use lib.ListN.{length, drop}
use Rattle.ints.specs.Bits.{bits_of, merged, Bytes}
use Rattle.ints.specs.Sums.{total}
use Rattle.key.specs.Key.{counts, runs, key_bits}
use Rattle.key.proofs.written.Given as goal

abbrev pub invariant-loop-j : goal.invariant-loop-j
invariant-loop-j l =
    (l.at + total (drop l.j (counts l.b)) + (50 - l.j) ≤ 80)
    × (merged (bits_of l.key) l.at (runs (drop l.j (counts l.b))) ≡ key_bits l.b) × (length l.key ≡ 10) × Bytes l.key
