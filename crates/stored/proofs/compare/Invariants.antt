use Rattle.std.proofs.Common.{◌≡◌, ◌≤◌, List, length}
use Rattle.std.specs.Prelude.{flat_map}
use Rattle.std.specs.List.{FoldsTo}
use Rattle.std.specs.Fn.{CalledAt}
use Rattle.std.specs.Io.KnownBytes.{Consumes}
use Rattle.stored.specs.Counts.{Counts}
use Rattle.stored.proofs.compare.Given as goal

abbrev pub invariant-loop-replayed : goal.invariant-loop-replayed
invariant-loop-replayed g l =
    goal.F-IsAlwaysCallable g l.differs
    × (l.differ ≤ l.replayed)
    × ((ones : List _) × Consumes (g.R.Read.remaining l.initial.reader) (g.R.Read.remaining l.reader) (flat_map g.T.Record.bytes_of ones)
    × (length ones ≡ l.replayed)
    × FoldsTo (Counts (CalledAt g.F.FnMut)) (l.fn.differs, 0) ones (l.differs, l.differ))
