-- Points below 23 are x's from 1 on, the rest o's from 2 on.
use mathlib.Core.Path.{sym, ◌∙◌}
use Prim.Native.Nat.{◌+◌, ◌-◌}
use native.Mathlib.Omega.{arith}
use Rattle.inputs.proofs.Own.{x-own, o-fits, o-own, row_of}
use Rattle.inputs.proofs.Fours.{length-race, race-x, race-o}
use Rattle.inputs.proofs.RaceNet.row_at.Goals as goal

pub row-requires : goal.row-requires
row-requires c = ((x-own c.requires.0 _ (omega arith)).most, (x-own c.requires.0 _ (omega arith)).least)

pub returns-then-k-lt23 : goal.returns-then-k-lt23
returns-then-k-lt23 c =
    row_of c.row.ensures ((x-own c.requires.0 (c.args.k + 1) (omega arith)).is ∙ sym (race-x c.args.b.now c.args.k (omega arith)))

pub bounds-b-k-2 : goal.bounds-b-k-2
bounds-b-k-2 c = omega (arith, length-race c.args.b.now)

pub overflow_sub-b : goal.overflow_sub-b
overflow_sub-b c = o-fits c.requires.0 _ (omega (arith, length-race c.args.b.now))

pub row-requires-2 : goal.row-requires-2
row-requires-2 c =
    let s = length-race c.args.b.now in
    ((o-own c.requires.0 _ (omega arith)).most, (o-own c.requires.0 _ (omega arith)).least)

pub returns : goal.returns
returns c =
    let s = length-race c.args.b.now in
    let w = o-own c.requires.0 (c.args.k - 21) (omega arith) in
    row_of c.row-2.ensures (w.is ∙ sym (race-o c.args.b.now c.args.k (omega arith) (omega arith)))
