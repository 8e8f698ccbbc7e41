-- The dice and the end are looked at in the definition's order, and the number's two bytes are its low and its high one.
use mathlib.Core.Path.{◌≡◌, sym, ◌∙◌}
use mathlib.Core.Bool.{false}
use native.Mathlib.Omega.{arith}
use Rattle.std.proofs.Common.{rules}
use Rattle.position.specs.Board.{checkers}
use Rattle.card.specs.Read.{finished}
use Rattle.card.proofs.TurnRecords.{number_small, no-end, made}
use Rattle.card.proofs.writer.turn_record.Goals as goal
use Rattle.card.proofs.writer.turn_record.Goals.{After-is_finished}

pub returns-in_err-number : goal.returns-in_err-number
returns-in_err-number c =
    let a = c.args in
    let f : finished a.b ≡ false = sym c.is_finished.ensures ∙ c.if-is_finished.false in
    let h = no-end checkers a.b a.die1 a.die2 a.end c.requires f c.in_ok-byte.ensures _ c.in_err-number.ensures in
    search rules

pub overflow_cast-number : goal.overflow_cast-number
overflow_cast-number c =
    let a = c.args in
    let h = number_small checkers a.b a.die1 a.die2 a.end _ c.in_ok-number.ensures in
    omega arith

pub returns : goal.returns
returns c =
    let a = c.args in
    let f : finished a.b ≡ false = sym c.is_finished.ensures ∙ c.if-is_finished.false in
    let h = made checkers a.b a.die1 a.die2 a.end c.requires f c.in_ok-byte.ensures _ c.in_ok-number.ensures in
    rw c.to_le_bytes.ensures h
