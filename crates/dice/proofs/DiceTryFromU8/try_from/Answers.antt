-- A byte of the 21 is read as the roll of the two dice that it holds, and any other is refused.
use mathlib.Core.Path.{◌∙◌, sym}
use borrow.Author.Rules.{rules}
use Rattle.dice.proofs.Bytes.{read-dice, read_none}
use Rattle.dice.proofs.DiceTryFromU8.try_from.Goals as goal

pub returns-then-is_dice_byte : goal.returns-then-is_dice_byte
returns-then-is_dice_byte c =
    c.new.ensures
    ∙ read-dice c.args.byte (search rules) (sym c.is_dice_byte.ensures ∙ c.if-is_dice_byte.true)

pub returns-else-is_dice_byte : goal.returns-else-is_dice_byte
returns-else-is_dice_byte c =
    sym (read_none c.args.byte (sym c.is_dice_byte.ensures ∙ c.if-is_dice_byte.false))
