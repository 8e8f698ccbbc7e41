-- The pairs that the test goes through are x's and o's checkers of each point.
use native.Mathlib.Omega.{arith}
use mathlib.Core.Path.{◌∙◌}
use mathlib.Core.Bool.{◌&&◌}
use lib.Dec.{ltb}
use Rattle.std.proofs.Common.{rules, tests}
use Rattle.std.proofs.lemmas.Iterator.{YieldsList-from_slice, YieldsList-from_zip}
use Rattle.std.proofs.lemmas.Iterator.Adapters.{YieldsList-from_rev_slice}
use Rattle.std.proofs.lemmas.Iterator.Consumers.{YieldsList-at}
use Rattle.std.proofs.lemmas.Iterator.Search.{any_from_yields_List}
use Rattle.key.proofs.Boards.{meet-tested}
use Rattle.key.proofs.shared.Goals as goal

pub returns : goal.returns
returns c =
    let x = c.args.x.now in
    let o = c.args.o.now in
    any_from_yields_List (λ p. ltb 0 p.0 && ltb 0 p.1) c.any.new.self _ c.any.result c.any.ensures.ran
    (YieldsList-from_zip (YieldsList-at c.zip.ensures.first (YieldsList-from_slice x c.iter.ensures.rest))
    (YieldsList-at c.zip.ensures.second (YieldsList-from_rev_slice o (cc c.rev.ensures.source))))
    (λ x r q k. search (rules, tests))
    ∙ meet-tested x o (omega arith) (omega arith)
