-- Ends that all lie before the window, or past it, change nothing.
use Prim.Native.Nat.{◌-◌}
use native.Mathlib.Omega.{arith}
use borrow.Author.Tests.{leb-true}
use Rattle.ints.proofs.Lent.{written-before, written-past}
use Rattle.moves.proofs.window.Window.outside.Goals as goal

pub returns-then-end-self : goal.returns-then-end-self
returns-then-end-self c = λ t es e. let a = c.args in written-before 26 a.self.now.out.now a.self.now.from a.start es (omega arith)

pub returns : goal.returns
returns c = λ t es e.
    let a = c.args in
    written-past 26 a.self.now.out.now a.self.now.from a.start es (rw a.self.now.whole at (leb-true a.self.now.slots (a.start - a.self.now.from) t))
