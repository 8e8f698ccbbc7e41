-- What is left to read gives the rest.
use native.Mathlib.Omega.{arith}
use Rattle.ints.specs.Bits.{bits_of}
use Rattle.ints.proofs.Bits.{length-bits}
use Rattle.key.proofs.Sides.{start, step, met, done}
use Rattle.key.proofs.read_side.Goals as goal

pub loop-q-init : goal.loop-q-init
loop-q-init c = start (bits_of c.args.key.now) c.args.from

pub returns-then-n-left : goal.returns-then-n-left
returns-then-n-left c = met c.loop-q.invariant c.loop-q-test.true c.ones_from-n.result c.ones_from-n.ensures c.if-n-left.true

pub loop-q-preserved : goal.loop-q-preserved
loop-q-preserved c =
    step c.loop-q.invariant c.loop-q-test.true c.ones_from-n.result c.ones_from-n.ensures c.if-n-left.false
    (omega (arith, c.loop-q.invariant.place, length-bits c.args.key.now))

pub returns : goal.returns
returns c = done c.loop-q.invariant c.loop-q-test.false
