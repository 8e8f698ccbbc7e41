use Rattle.munchalep.proofs.Handing.{handed, board-put}
use Rattle.munchalep.proofs.munchalep_board_of_key.Goals as goal

pub returns : goal.returns
returns c = handed (board-put c.decode.result c.put.ensures.number c.put.ensures.lent) c.decode.ensures
