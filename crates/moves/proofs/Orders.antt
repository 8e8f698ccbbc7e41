-- The first point of a mask, and the mask without it.
-- Assumes nothing.
use mathlib.Core.Path.{sym, ◌∙◌}
use mathlib.Core.Bool.{not}
use mathlib.Core.List.{List}
use Prim.Native.Nat.{ℕ, ◌-◌, ◌^◌}
use native.Mathlib.Omega.{arith}
use lib.Dec.{eqb}
use Rattle.ints.specs.Bits.{bit}
use Rattle.ints.proofs.Digits.{bit-clear, shl_one}
use Rattle.ints.proofs.Masks.{First}
use Rattle.ints.proofs.Tests.{and_left}
use Rattle.moves.specs.Order.{Next}

pub next-first : {points : ℕ → List ℕ} {m q : ℕ} → First 32 25 m q points → Next points m q (m - 2 ^ q)
next-first {points} {m} {q} f = record {
  below = f.below;
  held = f.held;
  parts = rw (shl_one 32 q (omega (arith, f.below))) at f.parts;
  fewer = λ i h. and_left (bit m i) (not (eqb i q)) (sym (bit-clear m q f.held i) ∙ h);
}
