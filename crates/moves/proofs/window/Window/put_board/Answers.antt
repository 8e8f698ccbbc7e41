-- The end is written where it has a slot, and otherwise there is nothing to store.
use mathlib.Core.Path.{ap, ◌∙◌}
use borrow.Author.Rules.{rules}
use Prim.Native.Nat.{◌-◌, ◌*◌}
use lib.Seq.{sets}
use Rattle.moves.specs.Bytes.{image}
use Rattle.moves.proofs.PassingSteps.{slot-stored}
use Rattle.moves.proofs.window.Window.put_board.Goals as goal

pub returns-then-holds : goal.returns-then-holds
returns-then-holds c =
    let a = c.args in
    let w = a.self.now in
    record {
      same = search rules;
      from = search rules;
      lent = slot-stored w.out.now _ w.from a.n (image a.b.now) (c.holds.ensures.0 c.if-holds.true)
          (c.copy.ensures ∙ ap (sets w.out.now ((a.n - w.from) * 26)) c.switched_bytes-s.ensures);
    }
