-- The bits that are tested are those from `from` on, which are the last.
use mathlib.Core.Path.{refl, ◌∙◌}
use mathlib.Core.Bool.{false}
use Prim.Native.Nat.{◌-◌}
use lib.ListN.{get_or}
use native.Mathlib.Omega.{arith}
use Rattle.std.proofs.Common.{rules, tests}
use Rattle.std.proofs.lemmas.Iterator.{YieldsList-from_range}
use Rattle.std.proofs.lemmas.Iterator.Search.{any_from_yields_List}
use Rattle.ints.specs.Bits.{bits_of}
use Rattle.ints.proofs.Bits.{length-bits}
use Rattle.key.proofs.Runs.{some-tested}
use Rattle.key.proofs.set_from.Goals as goal

pub returns : goal.returns
returns c =
    let l = bits_of c.args.key.now in
    any_from_yields_List (λ k. get_or l k false) _ _ c.any.result c.any.ensures.ran
    (YieldsList-from_range c.args.from 80 (80 - c.args.from) refl refl) (λ x r q k. search (rules, tests))
    ∙ some-tested l c.args.from (80 - c.args.from) (omega (arith, length-bits c.args.key.now))
