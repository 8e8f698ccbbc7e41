-- After i stores the row is the first i steps, and what stood in the other places.
use Rattle.std.proofs.Common.{◌≡◌}
use Rattle.bg_move.proofs.Rows.{laid}
use Rattle.munchalep.proofs.recover.munchalep_recover.Given as goal

abbrev pub invariant-loop-i : goal.invariant-loop-i
invariant-loop-i l = l.row ≡ laid l.steps l.i l.initial.row
