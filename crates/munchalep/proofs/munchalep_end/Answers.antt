use Rattle.munchalep.proofs.Handing.{handed, board-put}
use Rattle.munchalep.proofs.munchalep_end.Goals as goal

pub returns : goal.returns
returns c = handed (board-put c.end.result c.put.ensures.number c.put.ensures.lent) c.end.ensures
