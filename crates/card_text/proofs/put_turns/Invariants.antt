-- The loop's invariant: the lines of the first k turns are put, and b is the board after them.
use Rattle.std.proofs.Common.{◌≡◌, ◌+◌, ◌*◌, ◌≤◌}
use Rattle.card.specs.Read.{board_after}
use Rattle.card_text.specs.Text.{lines_of}
use Rattle.card_text.specs.Turns.{HasPhase}
use Rattle.card_text.specs.Wrote.{Wrote}
use Rattle.card_text.proofs.put_turns.Given as goal

abbrev pub invariant-loop-k : goal.invariant-loop-k
invariant-loop-k l = record {
  board : l.b ≡ board_after l.card l.k;
  phase : HasPhase l.b;
  near : l.to ≤ l.at + 42 * l.k;
  wrote : Wrote l.initial.out l.at (lines_of l.card l.k) l.to l.out;
}
