-- The generator passes every end, whatever room it has.
use native.Mathlib.Omega.{arith}
use Rattle.moves.proofs.Entries.{count-is}
use Rattle.moves.proofs.number_of_ends.Goals as goal

pub returns : goal.returns
returns c =
    let a = c.args in
    omega (arith, c.fill.ensures.number, count-is a.b.now a.die1 a.die2)
