-- The record's bytes tell the dice and the number, and the generator the rest.
use Rattle.std.proofs.Common.{◌≡◌, refl, arith}
use Rattle.card.specs.Read.{larger, smaller, end_number, after_turn}
use Rattle.moves.specs.Answers.{ends_count}
use Rattle.card_text.proofs.ToldTurns.{counted, ended, turn-told}
use Rattle.card_text.proofs.told.Goals as goal

pub unwrap-count-requires : goal.unwrap-count-requires
unwrap-count-requires c =
    rw (counted c.requires.0 c.args.bytes.now (λ i. omega (arith, c.type_inv.bytes i)) c.requires.1 c.count.ensures)

pub unwrap-after-requires : goal.unwrap-after-requires
unwrap-after-requires c =
    rw (ended c.requires.0 c.args.bytes.now (λ i. omega (arith, c.type_inv.bytes i)) c.requires.1 (omega (arith, c.from_le_bytes-number.ensures)) c.end.ensures)

pub returns : goal.returns
returns c =
    let a = c.requires.0 in
    let r = c.args.bytes.now in
    let n : c.from_le_bytes-number.result ≡ end_number r = omega (arith, c.from_le_bytes-number.ensures) in
    let k = counted a r (λ i. omega (arith, c.type_inv.bytes i)) c.requires.1 c.count.ensures in
    let e = ended a r (λ i. omega (arith, c.type_inv.bytes i)) c.requires.1 n c.end.ensures in
    let count : c.unwrap-count.result ≡ ends_count c.args.b (larger r) (smaller r) = cc in
    let after : c.unwrap-after.result ≡ after_turn c.args.b r = cc in
    turn-told a r (λ i. omega (arith, c.type_inv.bytes i)) c.requires.1 _ refl n count after
