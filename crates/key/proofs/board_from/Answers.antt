-- The closure gives the table's entry at each point, and leaves what it reads as it was.
use mathlib.Core.Path.{◌≡◌}
use Prim.Native.Nat.{◌-◌}
use lib.IntN.{pos, ◌-ℤ◌}
use lib.ListN.{get_or}
use Rattle.std.proofs.Common.{rules, tests}
use Rattle.std.proofs.lemmas.Int.{ints}
use Rattle.key.proofs.Boards.{table_made}
use Rattle.key.specs.Key.{board_from}
use Rattle.key.proofs.board_from.Goals as goal

pub returns : goal.returns
unfolding board_from
returns c =
    table_made _ _ (λ p. pos (get_or c.args.x.now p 0) -ℤ pos (get_or c.args.o.now (25 - p) 0)) c.from_fn.result (pos 0) 26
    (λ j y q h k.
    let x = c.requires j in
    let o = c.requires (25 - j) in
    let same : q ≡ (c.args.x, c.args.o) = search (rules, tests) in
    let is : y ≡ pos (get_or c.args.x.now j 0) -ℤ pos (get_or c.args.o.now (25 - j) 0) = search (rules, tests, ints) in
    (same, is))
    c.from_fn.ensures.items
