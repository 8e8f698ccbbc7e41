-- The bits of a row of the table, value by value.
use mathlib.Core.Bool.{not}
use Prim.Native.Nat.{ℕ, ◌-◌, ◌<◌}
use native.Mathlib.Omega.{arith}
use lib.Dec.{T}
use lib.Ieee.{nan, is_nan}
use lib.ListN.{get_or}
use Rattle.inputs.proofs.Stores.{row_number, row-bits}
use Rattle.inputs.proofs.td_bits.Goals as goal
use Rattle.inputs.proofs.td_bits.Goals.{After-td_inputs-four}

number : (c : After-td_inputs-four) (j : ℕ) → j < 4 → T (not (is_nan (get_or c.td_inputs-four.result j nan)))
number c j h = row_number c.td_inputs-four.result (c.args.row - 15) j (omega arith) h c.td_inputs-four.ensures

pub bits_of-requires : goal.bits_of-requires
bits_of-requires c = number (goal.at.bits_of-requires c).After-td_inputs-four 0 (omega arith)

pub bits_of-requires-2 : goal.bits_of-requires-2
bits_of-requires-2 c = number (goal.at.bits_of-requires-2 c).After-td_inputs-four 1 (omega arith)

pub bits_of-requires-3 : goal.bits_of-requires-3
bits_of-requires-3 c = number (goal.at.bits_of-requires-3 c).After-td_inputs-four 2 (omega arith)

pub bits_of-requires-4 : goal.bits_of-requires-4
bits_of-requires-4 c = number (goal.at.bits_of-requires-4 c).After-td_inputs-four 3 (omega arith)

pub returns : goal.returns
returns c =
    let e1 = c.bits_of.ensures in
    let e2 = c.bits_of-2.ensures in
    let e3 = c.bits_of-3.ensures in
    let e4 = c.bits_of-4.ensures in
    rw (e1, e2, e3, e4) (row-bits c.td_inputs-four.result (c.args.row - 15) c.td_inputs-four.ensures)
