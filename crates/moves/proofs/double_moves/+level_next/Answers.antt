-- The facts of a level, and what they make of each origin's ends.
use borrow.Author.Rules.{rules}
use mathlib.Core.Path.{◌≡◌}
use mathlib.Core.List.{List}
use Prim.Native.Nat.{ℕ, ◌+◌, ◌-◌, ◌*◌, ◌^◌, ◌≤◌, ◌<◌}
use native.Mathlib.Omega.{arith}
use lib.IntN.{ℤ}
use Rattle.ints.proofs.Signed.{small-more}
use Rattle.position.specs.Step.{Good, stepped}
use Rattle.position.proofs.StepCode.{small-stepped}
use Rattle.rules.proofs.Two.{can-good}
use Rattle.moves.specs.Bytes.{over}
use Rattle.moves.specs.Points.{Masked, origins_mask}
use Rattle.moves.proofs.Passing.{remain-all, remain-part, remain-fits, remain-first, remain-over}
use Rattle.moves.proofs.Doubling.{branch, Level, level-can, level-masked, level-over, level-last, level-number}
use Rattle.moves.proofs.double_moves.+level_next.Invariants.{points}
use Rattle.moves.proofs.double_moves.+level_next.Goals as goal

-- what both functions require, with the mask of origins
level-of : {b : List ℤ} {x free d top all : ℕ} {S L M : Type 0} → Good b × Masked b x free × S → x < 2 ^ 25 → free < 2 ^ 25
    → (0 < d) × (d ≤ 6) × L × M × (top < 25) → all ≡ origins_mask x free d top → Level b x free d top all
level-of p xl fl q e = record {
  good = p.0;
  masked = p.1;
  x-small = xl;
  free-small = fl;
  die = record { low = q.0; high = q.1 };
  top_small = q.4;
  origins = e;
}

pub level-steps-requires-clause-die_nonzero : goal.level-steps-requires-clause-die_nonzero
level-steps-requires-clause-die_nonzero t c =
    let q = c.requires.x_bound in
    let y = c.args.points in
    let e = level-of c.requires.good y.x_points y.free_points q c.origins-all.ensures.0 in
    (q.0, c.origins-all.ensures.1, omega (arith, level-number e c.args.left c.if-left-eq1.true, c.requires.b_bound))

pub level-returns-then-left-eq1 : goal.level-returns-then-left-eq1
level-returns-then-left-eq1 t c =
    let y = c.args.points in
    let e = level-of c.requires.good y.x_points y.free_points c.requires.x_bound c.origins-all.ensures.0 in
    rw (← level-last e c.args.left c.if-left-eq1.true) c.steps.ensures

pub level-loop-p-init : goal.level-loop-p-init
level-loop-p-init t c =
    let a = c.args in
    let y = c.args.points in
    let e = level-of c.requires.good y.x_points y.free_points c.requires.x_bound c.origins-all.ensures.0 in
    let i : c.into_iter-p-iterator.result.rest ≡ c.origins-all.result = search rules in
    rw i (
      level-can e,
      remain-all _ _ a.window.now a.start (level-over e a.left (omega arith)),
    )

pub level-next-n-requires : goal.level-next-n-requires
level-next-n-requires t c =
    let l = c.loop-p in
    let a = c.args in
    let w = c.in-Some.p in
    let p = c.requires in
    let q = p.x_bound in
    let e = level-of p.good a.points.x_points a.points.free_points q c.origins-all.ensures.0 in
    let f = c.in-Some.ensures.steps in
    let can = l.invariant.0 w f.held in (
      omega (arith, c.decreases),
      (
        (
          can-good a.b.now w a.die e.good can,
          rw (c.after.ensures.0, c.after.ensures.1) (level-masked e w can),
          small-more (100 - 2 * a.left) (98 - 2 * (a.left - 1)) a.b.now (omega arith) p.good.2,
        ),
        (
          (q.0, q.1, omega arith, omega arith, f.below),
          remain-fits (branch a.b.now a.die a.left w) _ (2 ^ 32) (remain-first points _ l.invariant.1 f) p.b_bound,
        ),
      ),
    )

pub level-loop-p-preserved : goal.level-loop-p-preserved
level-loop-p-preserved t c =
    let l = c.loop-p in
    let a = c.args in
    let g = branch a.b.now a.die a.left in
    let f = c.in-Some.ensures.steps in (
      λ p h. l.invariant.0 p (f.fewer p h),
      remain-part (g c.in-Some.p) (over g (points c.next.new.self.rest)) (remain-first points g l.invariant.1 f) c.next-n.ensures,
    )

pub level-returns : goal.level-returns
level-returns t c = remain-over points _ c.loop-p.invariant.1 c.in-None.ensures.steps

pub next-steps_after-requires-clause-p_bound : goal.next-steps_after-requires-clause-p_bound
next-steps_after-requires-clause-p_bound t c =
    let q = c.requires.x_bound in
    let y = c.args.points in
    let e = level-of c.requires.good y.x_points y.free_points q c.origins.ensures.0 in
    (omega arith, q.0, c.origins.ensures.1, omega (arith, level-number e c.args.left c.if-left-eq1.true, c.requires.die_bound))

pub next-returns-then-left-eq1 : goal.next-returns-then-left-eq1
next-returns-then-left-eq1 t c =
    let y = c.args.points in
    let e = level-of c.requires.good y.x_points y.free_points c.requires.x_bound c.origins.ensures.0 in
    rw (← level-last e c.args.left c.if-left-eq1.true) c.steps_after.ensures

pub next-level-requires : goal.next-level-requires
next-level-requires t c =
    let a = c.args in
    let p = c.requires.good in
    let q = c.requires.x_bound in (
      omega (arith, c.decreases),
      rw c.step_in_place.ensures (
        (
          p.0,
          p.1,
          small-more (98 - 2 * a.left + 2) (100 - 2 * a.left) (stepped a.b.now a.p a.die) (omega arith)
              (small-stepped (98 - 2 * a.left) a.b.now a.p a.die p.2),
        ),
        ((q.0, q.1, q.2, omega arith, q.4), c.requires.die_bound),
      ),
    )
