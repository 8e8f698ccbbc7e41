-- The loop's invariant: the turns read so far, and what is left to read.
use Rattle.std.proofs.Common.{◌≡◌}
use Rattle.std.specs.Slice.Iter.{chunks_rest, chunks_size}
use Rattle.position.specs.Board.{checkers}
use Rattle.card.specs.Game.{turns_most}
use Rattle.card.proofs.Replays.{Going}
use Rattle.card.proofs.reader.replay.Given as goal

abbrev pub invariant-loop-bytes : goal.invariant-loop-bytes
invariant-loop-bytes l =
    goal.iterator-loop-bytes.can_next l.bytes-iterator
    × goal.iterator-loop-bytes.is_finite l.bytes-iterator
    × (chunks_size l.bytes-iterator ≡ 5)
    × Going checkers turns_most l.card l.stop l.last l.asked l.turns (chunks_rest l.bytes-iterator)
