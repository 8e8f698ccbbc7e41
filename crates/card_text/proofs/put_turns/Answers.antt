use Rattle.std.proofs.Common.{◌≡◌, refl, sym, subst, ◌∙◌, ◌+◌, ◌*◌, ℕ, List, drop, arith}
use Rattle.std.proofs.lemmas.List.{take_rest}
use lib.IntN.{ℤ}
use Rattle.card.specs.Read.{turn_at, turn_refusal}
use Rattle.key.specs.Key.{key_of}
use Rattle.position.specs.Board.{checkers}
use Rattle.card.proofs.Stores.{encoded}
use Rattle.card_text.specs.Turns.{HasPhase}
use Rattle.card_text.specs.Wrote.{Wrote}
use Rattle.card_text.proofs.ToldTurns.{start-phase, turn-fine}
use Rattle.card_text.proofs.CardLines.{lines_start, lines_next, line-is, next-board}
use Rattle.card_text.proofs.put_turns.Goals as goal

pub loop-k-init : goal.loop-k-init
loop-k-init c =
    let card = c.args.card.now in
    record {
      board = c.requires.1;
      phase = subst HasPhase (sym c.requires.1) (start-phase card c.args.turns c.requires.0);
      near = omega arith;
      wrote = lines_start card c.args.out.now c.args.at;
    }

pub slice_bounds-told-count : goal.slice_bounds-told-count
slice_bounds-told-count c = omega (arith, (turn-fine c.args.card.now c.args.turns c.requires.0 c.loop-k.k c.loop-k-test.true).0)

pub slice_bounds-told-start : goal.slice_bounds-told-start
slice_bounds-told-start c = omega (arith, (turn-fine c.args.card.now c.args.turns c.requires.0 c.loop-k.k c.loop-k-test.true).0)

pub told-turn-requires : goal.told-turn-requires
told-turn-requires c =
    let l = c.loop-k in
    let card = c.args.card.now in
    let f = turn-fine card c.args.turns c.requires.0 l.k c.loop-k-test.true in
    rw (take_rest card (12 + 5 * l.k))
    (l.invariant.phase.accepted, subst (λ (x : List ℤ). turn_refusal x (drop (turn_at l.k) card) ≡ 0) (sym l.invariant.board) f.1)

pub unwrap-key-requires : goal.unwrap-key-requires
unwrap-key-requires c = rw (encoded checkers c.told-turn.result.after c.told-turn.ensures.ok.accepted c.encode.result c.encode.ensures)

pub loop-k-preserved : goal.loop-k-preserved
loop-k-preserved c =
    let l = c.loop-k in
    let card = c.args.card.now in
    let t = rw (take_rest card (12 + 5 * l.k)) at c.told-turn.ensures in
    let e = encoded checkers c.told-turn.result.after t.ok.accepted c.encode.result c.encode.ensures in
    let key : c.unwrap-key.result ≡ key_of c.told-turn.result.after = cc in
    let line = c.turn_line-line.ensures.text ∙ line-is card l.k l.invariant.board t key refl in
    let w = c.put_line-to.ensures in
    record {
      board = next-board card l.k l.invariant.board t;
      phase = t.ok;
      near = omega (arith, w.next, c.turn_line-line.ensures.short, l.invariant.near);
      wrote = lines_next card l.k l.invariant.wrote (subst (λ (x : List ℕ). Wrote l.out l.to x c.put_line-to.result c.put_line-to.new.out) line w);
    }
