-- That row of the table has its rule.
use mathlib.Core.Path.{ap, ◌∙◌}
use mathlib.Core.List.{List, [], map}
use Prim.Native.Nat.{◌-◌}
use lib.Ieee.{Float}
use lib.ListN.{get_or}
use Rattle.ints.proofs.Sums.{table_at}
use Rattle.inputs.specs.Inputs.{whole, four, td_inputs}
use Rattle.inputs.proofs.td_inputs.Goals as goal

pub returns : goal.returns
unfolding td_inputs
returns c =
    ap (λ (t : List (List Float)). get_or t c.args.row []) c.td_table.ensures
    ∙ table_at (λ i. map whole (four (i - 15))) 31 c.args.row [] c.requires
