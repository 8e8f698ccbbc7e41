use mathlib.Core.Path.{refl}
use native.Mathlib.Omega.{arith}
use Rattle.ints.proofs.Masks.{highest}
use Rattle.moves.proofs.Orders.{next-first}
use Rattle.moves.proofs.order.HighToLowOrder.first.Goals as goal

pub returns : goal.returns
returns c = next-first (highest 32 25 c.args.m _ (omega arith) (λ e. omega arith) c.requires.1 refl)
