-- The loop's invariant: the combinations that are left decide.
use Rattle.std.proofs.Common.{◌≡◌, drop}
use Rattle.bg_move.specs.Steps.{two_checkers}
use Rattle.bg_move.proofs.Choices.{pair_of}
use Rattle.bg_move.proofs.mixed.two_checkers.Given as goal

abbrev pub invariant-loop-p : goal.invariant-loop-p
invariant-loop-p l = pair_of l.b l.e (drop l.p-index l.p-items) ≡ two_checkers l.b l.e l.from1 l.from2 l.small l.big
