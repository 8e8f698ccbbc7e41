-- The loops' invariants: what is left to try decides.
use Rattle.std.proofs.Common.{◌≡◌, drop, [], ◌∷◌}
use Rattle.bg_move.specs.Steps.{one_checker}
use Rattle.bg_move.proofs.Choices.{both_from, one_from}
use Rattle.bg_move.proofs.mixed.one_checker.Given as goal

abbrev pub invariant-loop-die1 : goal.invariant-loop-die1
invariant-loop-die1 l =
    both_from l.b l.e l.from (one_from l.b l.e l.from (l.small ∷ l.big ∷ [])) (drop l.die1-index l.die1-items) ≡ one_checker l.b l.e l.from l.small l.big

abbrev pub invariant-loop-die : goal.invariant-loop-die
invariant-loop-die l = one_from l.b l.e l.from (drop l.die-index l.die-items) ≡ one_checker l.b l.e l.from l.small l.big
