use Rattle.std.proofs.Common.{◌<◌}
use Rattle.replay_moves.proofs.checksum.Given as goal

abbrev pub invariant-loop-byte : goal.invariant-loop-byte
invariant-loop-byte l =
    (goal.iterator-loop-byte).can_next l.byte-iterator × (goal.iterator-loop-byte).is_finite l.byte-iterator × (l.sum < 4294967291)
