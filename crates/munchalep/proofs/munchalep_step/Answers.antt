use Rattle.munchalep.proofs.Handing.{handed, board-put}
use Rattle.munchalep.proofs.munchalep_step.Goals as goal

pub returns : goal.returns
returns c = handed (board-put c.try_move_single_checker.result c.put.ensures.number c.put.ensures.lent) c.try_move_single_checker.ensures
