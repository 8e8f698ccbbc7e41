-- What `answer_number` requires, that the ends are few enough for one number.
use Rattle.std.proofs.Common.{length}
use Rattle.position.specs.Board.{checkers}
use Rattle.moves.proofs.Entries.{list-carries}
use Rattle.munchalep.proofs.munchalep_list.Goals as goal

pub answer_number-requires : goal.answer_number-requires
answer_number-requires c =
    let a = c.args in
    rw c.list.ensures.0 (list-carries checkers a.board.now a.die1 a.die2 (length a.list.now))
