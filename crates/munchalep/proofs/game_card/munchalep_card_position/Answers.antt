-- The board is stored exactly where the answer has one, and a card is short enough for its refusal's number.
use Rattle.std.proofs.Common.{sym, ap, ◌∙◌, arith}
use Rattle.position.specs.Board.{checkers}
use Rattle.card.specs.Game.{turns_most}
use Rattle.card.specs.Answers.{PositionAnswer, position_told}
use Rattle.card.proofs.Carried.{position-carries}
use Rattle.munchalep.proofs.Handing.{handed-position, stays, goes}
use Rattle.munchalep.proofs.game_card.munchalep_card_position.Goals as goal

pub refused_number-requires : goal.refused_number-requires
refused_number-requires c =
    let e = ap (λ (a : PositionAnswer). a.at) (sym (ap position_told c.in-Err.is) ∙ c.position.ensures) in
    omega (arith, e, position-carries checkers turns_most c.args.card.now c.args.number)

pub returns-in-Ok : goal.returns-in-Ok
returns-in-Ok c =
    handed-position
    (record { number = omega arith; lent = goes c.in-Ok.board c.args.out.now })
    (sym (ap position_told c.in-Ok.is) ∙ c.position.ensures)

pub returns-in-Err : goal.returns-in-Err
returns-in-Err c =
    handed-position
    (record { number = c.refused_number.ensures; lent = stays c.in-Err.refused.why _ c.args.out.now })
    (sym (ap position_told c.in-Err.is) ∙ c.position.ensures)
