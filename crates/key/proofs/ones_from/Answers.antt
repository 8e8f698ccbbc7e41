-- The bits that are tested are `most` of those from `from` on, and the first 0 ends them.
use mathlib.Core.Path.{◌∙◌}
use mathlib.Core.Bool.{false}
use Prim.Native.Nat.{◌+◌}
use lib.ListN.{get_or}
use native.Mathlib.Omega.{arith}
use Rattle.std.proofs.Common.{rules, tests}
use Rattle.std.specs.List.{range_with_len}
use Rattle.std.proofs.lemmas.Iterator.{YieldsList-from_range}
use Rattle.std.proofs.lemmas.Iterator.Search.{YieldsList-from_take_while}
use Rattle.std.proofs.lemmas.Iterator.Consumers.{count_from_yields_List}
use Rattle.std.proofs.lemmas.List.Folds.{length-prefix_len}
use Rattle.ints.specs.Bits.{bits_of}
use Rattle.key.proofs.Runs.{lead-tested}
use Rattle.key.proofs.ones_from.Goals as goal

pub returns : goal.returns
returns c =
    let l = bits_of c.args.key.now in
    count_from_yields_List c.take_while.result c.count.result c.count.ensures.ran
    (YieldsList-from_take_while _ (λ k. get_or l k false)
    (YieldsList-from_range c.args.from (c.args.from + c.args.most) c.args.most c.take_while.ensures.source (omega arith))
    c.take_while.ensures.closure c.take_while.ensures.done (λ x r q k. search (rules, tests)))
    ∙ length-prefix_len (λ k. get_or l k false) (range_with_len c.args.from c.args.most)
    ∙ lead-tested l c.args.from c.args.most
