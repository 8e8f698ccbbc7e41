-- The text of the reading, where the memory has the room for any.
use Rattle.std.proofs.Common.{arith}
use Rattle.card.specs.Game.{turns_most}
use Rattle.card_text.proofs.CardLines.{text-put, text-unput, text-fits}
use Rattle.card_text.proofs.text.Goals as goal

pub returns-then-out-lt-ROOM-clause-answer : goal.returns-then-out-lt-ROOM-clause-answer
returns-then-out-lt-ROOM-clause-answer c =
    (text-unput c.args.card.now c.args.out.now turns_most c.if-out-lt-ROOM.true).0

pub returns-then-out-lt-ROOM-clause-lent : goal.returns-then-out-lt-ROOM-clause-lent
returns-then-out-lt-ROOM-clause-lent c =
    (text-unput c.args.card.now c.args.out.now turns_most c.if-out-lt-ROOM.true).1

pub returns-clause-answer : goal.returns-clause-answer
returns-clause-answer c =
    (text-put c.args.card.now c.args.out.now turns_most c.if-out-lt-ROOM.false c.put_text.ensures).0

pub returns-clause-lent : goal.returns-clause-lent
returns-clause-lent c =
    (text-put c.args.card.now c.args.out.now turns_most c.if-out-lt-ROOM.false c.put_text.ensures).1

pub returns-clause-fits : goal.returns-clause-fits
returns-clause-fits c =
    omega (arith, c.put_text.ensures.next, text-fits turns_most c.args.card.now, c.if-out-lt-ROOM.false)
