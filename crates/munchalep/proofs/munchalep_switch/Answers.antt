use Rattle.munchalep.proofs.Handing.{handed, board-put}
use Rattle.munchalep.proofs.munchalep_switch.Goals as goal

pub returns : goal.returns
returns c = handed (board-put c.switch.result c.put.ensures.number c.put.ensures.lent) c.switch.ensures
