-- The table's rule, by one computation over the whole table.
use mathlib.Core.Path.{refl}
use lib.Ieee.{of_bits}
use Rattle.ints.specs.Sums.{values}
use Rattle.inputs.specs.Inputs.{whole, td_inputs}
use Rattle.inputs.proofs.td_table.Goals as goal

pub returns : goal.returns
unfolding td_inputs values whole of_bits
returns c = refl
