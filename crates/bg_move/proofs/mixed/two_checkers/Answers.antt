use mathlib.Core.Path.{refl}
use Rattle.bg_move.specs.Steps.{two_checkers}
use Rattle.bg_move.proofs.mixed.two_checkers.Goals as goal

pub loop-p-init : goal.loop-p-init
unfolding two_checkers
loop-p-init c = refl
