-- The two tests are those of `is_die`.
use borrow.Author.Tests.{le-leb, lt-leb}
use Rattle.dice.specs.Dice.{is_die}
use Rattle.dice.proofs.is_die.Goals as goal

pub returns-then-die-ge1 : goal.returns-then-die-ge1
unfolding is_die
returns-then-die-ge1 c = rw (le-leb 1 c.args.die c.if-die-ge1.true)

pub returns-else-die-ge1 : goal.returns-else-die-ge1
unfolding is_die
returns-else-die-ge1 c = rw (lt-leb 1 c.args.die c.if-die-ge1.false)
