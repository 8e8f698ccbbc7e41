-- The first line, the turns', and the last, one after the other.
use Rattle.std.proofs.Common.{◌≡◌, arith}
use Rattle.card.specs.Read.{board_after}
use Rattle.card_text.proofs.Writing.{wrote-length}
use Rattle.card_text.proofs.ToldTurns.{start-whole, decoded, phase-ok, phase-is}
use Rattle.card_text.proofs.CardLines.{card-put}
use Rattle.card_text.proofs.put_card.Goals as goal

pub key_bytes-key-requires : goal.key_bytes-key-requires
key_bytes-key-requires c =
    start-whole c.args.card.now c.args.turns c.requires.0

pub unwrap-start-requires : goal.unwrap-start-requires
unwrap-start-requires c = rw (decoded c.args.card.now c.args.turns c.requires.0 c.key_bytes-key.ensures c.decode.ensures)

pub put_turns-played-requires : goal.put_turns-played-requires
put_turns-played-requires c =
    let e = decoded c.args.card.now c.args.turns c.requires.0 c.key_bytes-key.ensures c.decode.ensures in
    let start : c.unwrap-start.result ≡ board_after c.args.card.now 0 = cc in
    let w = c.put_line-begun.ensures in
    (c.requires.0, start, omega (arith, w.next, wrote-length w, c.start_line.ensures.short, c.requires.1))

pub unwrap-phase-requires : goal.unwrap-phase-requires
unwrap-phase-requires c = phase-ok c.put_turns-played.ensures.ok c.game_phase.result c.game_phase.ensures

pub returns : goal.returns
returns c =
    let p = c.put_turns-played.ensures in
    let phase = phase-is p.ok c.game_phase.result c.game_phase.ensures c.unwrap-phase.ensures in
    card-put c.args.card.now c.args.turns (rw (c.start_line.ensures.text, c.key_bytes-key.ensures) at c.put_line-begun.ensures)
    p (rw (c.result_line.ensures.text, phase) at c.put_line.ensures)
