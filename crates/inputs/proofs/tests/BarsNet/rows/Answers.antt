-- x's bar is the first row, o's the second.
use Prim.Native.Nat.{zero, suc}
use native.Mathlib.Omega.{arith}
use Rattle.inputs.proofs.Own.{x-own, o-fits, o-own, row_of}
use Rattle.inputs.proofs.tests.BarsNet.rows.Goals as goal

pub row-requires : goal.row-requires
row-requires c = let w = x-own c.requires 25 (omega arith) in (w.most, w.least)

pub overflow_sub-b : goal.overflow_sub-b
overflow_sub-b c = o-fits c.requires 0 (omega arith)

pub row-requires-2 : goal.row-requires-2
row-requires-2 c = let w = o-own c.requires 0 (omega arith) in (w.most, w.least)

pub returns : goal.returns
returns c = elim [
  | zero ↦ λ h. row_of c.row.ensures (x-own c.requires 25 (omega arith)).is
  | suc zero ↦ λ h. row_of c.row-2.ensures (o-own c.requires 0 (omega arith)).is
  | suc (suc k) ↦ λ h. absurd (omega arith)
]
