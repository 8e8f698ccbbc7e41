-- What `answer_number` requires, that a card is short enough for one number.
use Rattle.std.proofs.Common.{arith}
use Rattle.position.specs.Board.{checkers}
use Rattle.card.specs.Game.{turns_most}
use Rattle.card.proofs.Carried.{read-carries}
use Rattle.munchalep.proofs.game_card.munchalep_card_read.Goals as goal

pub answer_number-requires : goal.answer_number-requires
answer_number-requires c = rw c.read.ensures (omega (arith, read-carries checkers turns_most c.args.card.now))
