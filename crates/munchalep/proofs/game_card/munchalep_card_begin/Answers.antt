-- What `answer_number` requires, that a card is short enough for one number.
use Rattle.std.proofs.Common.{length, arith}
use Rattle.position.specs.Board.{checkers}
use Rattle.card.proofs.Carried.{begin-carries}
use Rattle.munchalep.proofs.game_card.munchalep_card_begin.Goals as goal

pub answer_number-requires : goal.answer_number-requires
answer_number-requires c =
    rw c.begin.ensures.0 (omega (arith, begin-carries checkers c.args.board.now (length c.args.buffer.now)))
