-- The constant is the list of the 21 rolls, by computation, and past its end a list gives 0.
use mathlib.Core.Path.{refl, sym}
use lib.ListN.{get_or-eq_default}
use Rattle.dice.specs.Rolls.{rolls}
use Rattle.dice.proofs.roll.Goals as goal

pub returns-then-i-lt21 : goal.returns-then-i-lt21
unfolding rolls
returns-then-i-lt21 c = refl

pub returns-else-i-lt21 : goal.returns-else-i-lt21
unfolding rolls
returns-else-i-lt21 c = sym (get_or-eq_default rolls 0 c.if-i-lt21.false)
