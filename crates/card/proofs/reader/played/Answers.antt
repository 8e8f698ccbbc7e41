-- The dice are those that the byte tells, and the generator answers the rest.
use mathlib.Core.Path.{◌≡◌, sym, ap, ◌∙◌}
use mathlib.Core.Bool.{false}
use native.Mathlib.Omega.{arith}
use Rattle.std.specs.Prelude.{Ok}
use Rattle.position.specs.Board.{checkers}
use Rattle.card.specs.Read.{finished}
use Rattle.card.proofs.TurnRead.{played-double, played-mixed}
use Rattle.card.proofs.reader.played.Goals as goal

pub returns-in-Double : goal.returns-in-Double
returns-in-Double c =
    let f : finished c.args.b ≡ false = sym c.is_finished.ensures ∙ c.if-is_finished.false in
    played-double checkers c.args.b c.args.byte c.args.number f c.requires (omega arith) (ap Ok (sym c.in-Double.is) ∙ sym c.in_ok-die.was ∙ c.try_from.ensures) _ c.end.ensures

pub returns-in-Mixed : goal.returns-in-Mixed
returns-in-Mixed c =
    let f : finished c.args.b ≡ false = sym c.is_finished.ensures ∙ c.if-is_finished.false in
    played-mixed checkers c.args.b c.args.byte c.args.number f c.requires (omega arith) (ap Ok (sym c.in-Mixed.is) ∙ sym c.in_ok-die.was ∙ c.try_from.ensures) _ c.end-in-Mixed.ensures
