-- The turn's refusal, or its record behind the card.
use mathlib.Core.Path.{◌∙◌}
use native.Mathlib.Omega.{arith}
use Rattle.std.proofs.Common.{rules}
use Rattle.position.specs.Board.{checkers}
use Rattle.card.specs.Game.{turns_most}
use Rattle.card.proofs.Stores.{add-no-turn, add-written}
use Rattle.card.proofs.add.Goals as goal

pub returns-in_err-record : goal.returns-in_err-record
returns-in_err-record c =
    let a = c.args in
    let h = add-no-turn checkers turns_most a.buffer.now a.len a.die1 a.die2 a.end c.if-buffer-len.false c.in_ok-replayed.ensures c.if-replayed-ge-MAX_TURNS.false _ c.in_err-record.ensures in
    let k = c.from_residual-in_err-record.ensures in
    search rules

pub returns : goal.returns
returns c =
    let a = c.args in
    let w = add-written checkers turns_most a.buffer.now a.len a.die1 a.die2 a.end c.if-buffer-len.false c.in_ok-replayed.ensures c.if-replayed-ge-MAX_TURNS.false c.in_ok-record.ensures
    (omega (arith, c.if-buffer-len.false, c.if-buffer-len-lt-TURN_BYTES.false)) in
    (w.0, c.put.ensures ∙ w.1)
