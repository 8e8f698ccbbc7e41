-- An unrefused start has a key, and the stores are its start record.
use mathlib.Core.Path.{◌≡◌, refl, sym, ◌∙◌}
use Rattle.std.proofs.Common.{rules}
use Rattle.position.specs.Board.{checkers, Accepted}
use Rattle.key.specs.Key.{key_of}
use Rattle.card.proofs.Stores.{encoded, begin-written}
use Rattle.card.proofs.begin.Goals as goal
use Rattle.card.proofs.begin.Goals.{In_ok-check_start}

accepted : (c : In_ok-check_start) → Accepted checkers c.args.b
accepted c = c.in_ok-check_start.ensures.ok refl

pub unwrap-key-requires : goal.unwrap-key-requires
unwrap-key-requires c =
    let e = encoded checkers c.args.b (accepted (goal.at.unwrap-key-requires c).In_ok-check_start) c.encode.result c.encode.ensures in
    search rules

pub returns : goal.returns
returns c =
    let s = (goal.at.returns c).In_ok-check_start in
    let e = encoded checkers c.args.b (accepted s) c.encode.result c.encode.ensures in
    let w = begin-written checkers c.args.b c.args.buffer.now (sym s.in_ok-check_start.ensures.is) c.if-buffer-lt-START_BYTES.false in
    let key : c.unwrap-key.result ≡ key_of c.args.b = search rules in
    (w.0, c.put-2.ensures ∙ rw (c.put.ensures, key) w.1)
