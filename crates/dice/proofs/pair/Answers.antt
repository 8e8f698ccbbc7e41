-- The constant is the list of the 441 pairs, by computation, and past its end a list gives 0.
use mathlib.Core.Path.{refl, sym}
use lib.ListN.{get_or-eq_default}
use Rattle.dice.specs.Rolls.{pairs}
use Rattle.dice.proofs.pair.Goals as goal

pub returns-then-n-lt441 : goal.returns-then-n-lt441
unfolding pairs
returns-then-n-lt441 c = refl

pub returns-else-n-lt441 : goal.returns-else-n-lt441
unfolding pairs
returns-else-n-lt441 c = sym (get_or-eq_default pairs 0 c.if-n-lt441.false)
