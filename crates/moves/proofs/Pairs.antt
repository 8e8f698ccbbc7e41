-- Two different dice are dice.
-- Assumes nothing.
use native.Mathlib.Omega.{arith}
use Rattle.dice.specs.Dice.{Die}
use Rattle.moves.specs.declared.mixed_moves.Pair.{Pair}

pub small-die : (d : Pair) → Die d.small
small-die d = record { low = d.positive; high = omega (arith, d.ascending, d.at_most_6) }

pub big-die : (d : Pair) → Die d.big
big-die d = record { low = omega (arith, d.positive, d.ascending); high = d.at_most_6 }
