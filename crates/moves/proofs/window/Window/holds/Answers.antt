-- A number before the window and one past it have no slot.
use mathlib.Core.Path.{◌≡◌}
use Prim.Native.Nat.{ℕ, ◌-◌}
use native.Mathlib.Omega.{arith}
use borrow.Author.Tests.{ltb-true, ltb-false}
use Rattle.ints.proofs.Lent.{store-before, store-past}
use Rattle.moves.proofs.window.Window.holds.Goals as goal

pub returns-then-n-self : goal.returns-then-n-self
returns-then-n-self c =
    let a = c.args in
    (λ t. let z : ◌≡◌ {A = ℕ} 0 1 = cc in (omega arith, omega arith), λ t e. store-before 26 a.self.now.out.now a.self.now.from a.n e c.if-n-self.true)

pub returns : goal.returns
returns c =
    let a = c.args in
    let l = a.self.now.slots in
    (λ t. (c.if-n-self.false, rw a.self.now.whole at (ltb-true (a.n - a.self.now.from) l t)), λ t e. store-past 26 a.self.now.out.now a.self.now.from a.n e (rw a.self.now.whole at (ltb-false (a.n - a.self.now.from) l t)))
