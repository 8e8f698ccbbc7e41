-- The end is written where it has a slot, and otherwise there is nothing to store.
use borrow.Author.Rules.{rules}
use Rattle.position.specs.Step.{stepped}
use Rattle.moves.specs.Bytes.{image}
use Rattle.moves.proofs.PassingSteps.{slot-stored}
use Rattle.moves.proofs.window.Window.put_step.Goals as goal

pub returns-then-holds : goal.returns-then-holds
returns-then-holds c =
    let a = c.args in
    let w = a.self.now in
    record {
      same = search rules;
      from = search rules;
      lent = slot-stored w.out.now _ w.from a.n (image (stepped a.b.now a.p a.die)) (c.holds.ensures.0 c.if-holds.true) c.write_step.ensures;
    }
