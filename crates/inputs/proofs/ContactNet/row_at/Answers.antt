-- Point 0 is x's bar, those below 25 are x's, the rest o's.
use mathlib.Core.Path.{sym, ◌∙◌}
use Prim.Native.Nat.{◌-◌}
use native.Mathlib.Omega.{arith}
use Rattle.inputs.proofs.Own.{x-own, o-fits, o-own, row_of}
use Rattle.inputs.proofs.Fours.{length-contact, contact-bar, contact-x, contact-o}
use Rattle.inputs.proofs.ContactNet.row_at.Goals as goal

pub row-requires : goal.row-requires
row-requires c = let w = x-own c.requires.0 25 (omega arith) in (w.most, w.least)

pub returns-then-k-eq0 : goal.returns-then-k-eq0
returns-then-k-eq0 c =
    row_of c.row.ensures ((x-own c.requires.0 25 (omega arith)).is ∙ sym (contact-bar c.args.b.now c.args.k c.if-k-eq0.true))

pub row-requires-then-k-lt25 : goal.row-requires-then-k-lt25
row-requires-then-k-lt25 c = let w = x-own c.requires.0 c.args.k (omega arith) in (w.most, w.least)

pub returns-then-k-lt25 : goal.returns-then-k-lt25
returns-then-k-lt25 c =
    let w = x-own c.requires.0 c.args.k (omega arith) in
    row_of c.row-then-k-lt25.ensures (w.is ∙ sym (contact-x c.args.b.now c.args.k c.if-k-eq0.false (omega arith)))

pub bounds-b-k-2 : goal.bounds-b-k-2
bounds-b-k-2 c = omega (arith, length-contact c.args.b.now)

pub overflow_sub-b : goal.overflow_sub-b
overflow_sub-b c = o-fits c.requires.0 (c.args.k - 25) (omega (arith, length-contact c.args.b.now))

pub row-requires-2 : goal.row-requires-2
row-requires-2 c =
    let w = o-own c.requires.0 (c.args.k - 25) (omega (arith, length-contact c.args.b.now)) in
    (w.most, w.least)

pub returns : goal.returns
returns c =
    let s = length-contact c.args.b.now in
    let w = o-own c.requires.0 (c.args.k - 25) (omega arith) in
    row_of c.row-2.ensures (w.is ∙ sym (contact-o c.args.b.now c.args.k (omega arith) (omega arith)))
