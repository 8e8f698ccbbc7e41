-- A step keeps the entries small enough to be negated.
use native.Mathlib.Omega.{arith}
use Rattle.ints.proofs.Signed.{small-more}
use Rattle.moves.specs.Seconds.{after_entering}
use Rattle.moves.proofs.Entering.{small-entering}
use Rattle.moves.proofs.mixed_moves.put_entered.Goals as goal

pub put-requires-clause-small : goal.put-requires-clause-small
put-requires-clause-small c =
    let b = c.args.b.now in
    let e = after_entering b c.args.die in
    (rw c.entered-c.ensures (small-more 19 126 e (omega arith) (small-entering 17 b c.args.die c.requires.1)))
