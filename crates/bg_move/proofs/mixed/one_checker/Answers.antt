use mathlib.Core.Path.{refl}
use Rattle.bg_move.specs.Steps.{one_checker}
use Rattle.bg_move.proofs.mixed.one_checker.Goals as goal

pub loop-die1-init : goal.loop-die1-init
unfolding one_checker
loop-die1-init c = refl
