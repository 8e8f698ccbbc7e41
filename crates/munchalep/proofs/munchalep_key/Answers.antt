use Rattle.munchalep.proofs.Handing.{handed-key, key-put}
use Rattle.munchalep.proofs.munchalep_key.Goals as goal

pub returns : goal.returns
returns c = handed-key (key-put c.encode.result c.put.ensures.number c.put.ensures.lent) c.encode.ensures
