-- The tests are those of `omits`, and an origin is no 0.
use Prim.Native.Nat.{◌-◌}
use native.Mathlib.Omega.{arith}
use borrow.Author.Rules.{rules}
use mir.Syntax.{w8}
use Rattle.ints.proofs.Signed.{below-yes, below-no}
use Rattle.position.specs.Board.{entry}
use Rattle.moves.proofs.Seconds.{none-omitted, one-omitted}
use Rattle.moves.proofs.mixed_moves.omitted.Goals as goal

pub returns-then-p-first : goal.returns-then-p-first
returns-then-p-first c =
    let a = c.args in
    (omega arith, none-omitted a.b.now a.first a.second a.p (λ h y z. omega arith))

pub returns-then-b-p-lt0 : goal.returns-then-b-p-lt0
returns-then-b-p-lt0 c =
    let a = c.args in
    let o = below-yes w8 (entry a.b.now (a.p - a.first)) (search rules) c.if-b-p-lt0.true in
    (omega arith, none-omitted a.b.now a.first a.second a.p (λ h y z. omega arith))

pub returns-then-b-p-lt0-2 : goal.returns-then-b-p-lt0-2
returns-then-b-p-lt0-2 c =
    let a = c.args in
    let o = below-yes w8 (entry a.b.now (a.p - a.second)) (search rules) c.if-b-p-lt0-2.true in
    (omega arith, none-omitted a.b.now a.first a.second a.p (λ h y z. omega arith))

pub returns : goal.returns
returns c =
    let a = c.args in
    let b = a.b.now in (
      omega arith,
      one-omitted b a.first a.second a.p
          (below-no w8 (entry b (a.p - a.first)) (search rules) c.if-b-p-lt0.false)
          (below-no w8 (entry b (a.p - a.second)) (search rules) c.if-b-p-lt0-2.false),
    )
