-- The text of the card's reading.
use Rattle.std.proofs.Common.{sym, arith}
use Rattle.card_text.specs.Text.{text_of, text_from}
use Rattle.card_text.proofs.ToldTurns.{few-turns}
use Rattle.card_text.proofs.put_text.Goals as goal

pub put_card-requires : goal.put_card-requires
put_card-requires c =
    let e = sym c.in-Ok.ensures in
    (e, omega (arith, few-turns c.args.card.now _ e))

pub returns-in-Ok : goal.returns-in-Ok
unfolding text_of
returns-in-Ok c = rw (← c.in-Ok.ensures) c.put_card.ensures

pub returns-in-Err : goal.returns-in-Err
unfolding text_of text_from
returns-in-Err c = rw (← c.in-Err.ensures, ← c.refused_line.ensures.text) c.put_line.ensures
