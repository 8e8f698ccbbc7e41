-- What `answer_number` requires, that a card is short enough for one number.
use Rattle.std.proofs.Common.{arith}
use Rattle.position.specs.Board.{checkers}
use Rattle.card.specs.Game.{turns_most}
use Rattle.card.proofs.Carried.{add-carries}
use Rattle.munchalep.proofs.game_card.munchalep_card_add.Goals as goal

pub answer_number-requires : goal.answer_number-requires
answer_number-requires c =
    let a = c.args in
    rw c.add.ensures.0 (omega (arith, add-carries checkers turns_most a.buffer.now a.length a.die1 a.die2 a.end.now))
