-- Reading one side: 25 runs, at most fifteen checkers. The reader's state at its point q is told by what is left to read.
-- Assumes nothing.
use mathlib.Core.Path.{◌≡◌, refl, sym, ap, ◌∙◌}
use mathlib.Core.Bool.{Bool}
use mathlib.Core.List.{List, ◌∷◌, append-nil}
use Prim.Native.Nat.{ℕ, suc, ◌+◌, ◌-◌, min, ◌<◌, ◌≤◌}
use native.Mathlib.Numerals.{add-one}
use native.Mathlib.Omega.{arith}
use lib.ListN.{length, set, drop, replicate, length-drop}
use lib.Seq.{sets, sets-eq, drop-drop}
use Rattle.ints.specs.Sums.{total}
use Rattle.position.specs.Board.{checkers}
use Rattle.key.specs.Key.{lead, rest, counts_of, rest_of, o_side, x_side}
use Rattle.key.specs.Side.{Counted}
use Rattle.key.proofs.Runs.{length-counts, rest-drop}

-- before point q, with `left` checkers more making a sixteenth: the counts so far, and what stands from bit `at` on, are the whole
pub record Reading (bits : List Bool) (from : ℕ) (cs : List ℕ) (at left q : ℕ) : Type 0 where
  pub low : 1 ≤ q
  pub high : q ≤ 26
  pub more : 0 < left
  pub few : left ≤ 16
  pub place : at + left ≡ from + 15 + q
  pub fill : sets cs q (counts_of (26 - q) (drop at bits)) ≡ 0 ∷ counts_of 25 (drop from bits)
  pub sum : 16 + total (counts_of (26 - q) (drop at bits)) ≡ left + total (counts_of 25 (drop from bits))
  pub after : rest_of (26 - q) (drop at bits) ≡ rest_of 25 (drop from bits)

pub start : (bits : List Bool) (from : ℕ) → Reading bits from (replicate 26 0) from 16 1
start bits from =
    let l = counts_of 25 (drop from bits) in
    let e : 1 + length l ≡ 26 = omega (arith, length-counts 25 (drop from bits)) in
    record {
      low = omega arith;
      high = omega arith;
      more = omega arith;
      few = omega arith;
      place = omega arith;
      fill = sets-eq l (replicate 26 0) 1 (omega arith) ∙ rw e (ap (λ (k : List ℕ). 0 ∷ k) (append-nil l));
      sum = refl;
      after = refl;
    }

module _ {bits : List Bool} {from : ℕ} {cs : List ℕ} {at left q : ℕ} (r : Reading bits from cs at left q) where
  module _ (h : q < 26) (n : ℕ) (e : n ≡ min left (lead (drop at bits))) where
    -- the first of the runs that are left
    front : counts_of (26 - q) (drop at bits) ≡ lead (drop at bits) ∷ counts_of (25 - q) (rest (drop at bits))
    unfolding counts_of
    front = let s : 26 - q ≡ suc (25 - q) = omega arith in rw s

    behind : rest_of (26 - q) (drop at bits) ≡ rest_of (25 - q) (rest (drop at bits))
    unfolding rest_of
    behind = let s : 26 - q ≡ suc (25 - q) = omega arith in rw s

    front-sum : total (counts_of (26 - q) (drop at bits)) ≡ lead (drop at bits) + total (counts_of (25 - q) (rest (drop at bits)))
    unfolding total
    front-sum = ap total front

    -- a sixteenth checker
    pub met : n ≡ left → checkers < total (counts_of 25 (drop from bits))
    met m = omega (arith, r.sum, front-sum)

    -- the next point
    pub step : (n ≡ left → ⊥) → at + left ≤ length bits → Reading bits from (set cs q n) (at + (n + 1)) (left - n) (q + 1)
    step m g =
        let d : length (drop at bits) ≡ length bits - at = length-drop at bits in
        let a : lead (drop at bits) ≡ n = omega (arith, m) in
        let b : n < left = omega (arith, m) in
        let i : at + (lead (drop at bits) + 1) ≡ at + (n + 1) = omega arith in
        let t : rest (drop at bits) ≡ drop (at + (n + 1)) bits =
        rest-drop (drop at bits) (omega arith) ∙ drop-drop (lead (drop at bits) + 1) at bits ∙ ap (λ (k : ℕ). drop k bits) i in
        let c : 26 - (q + 1) ≡ 25 - q = omega arith in
        let o = r.low in
        let p = r.place in
        let s = r.sum in
        let f = front-sum in
        let w = r.few in
        record {
          low = omega arith;
          high = omega arith;
          more = omega arith;
          few = omega arith;
          place = omega arith;
          fill = rw (c, ← t, add-one q) (sym (ap (sets cs q) (front ∙ ap (λ (k : ℕ). k ∷ counts_of (25 - q) (rest (drop at bits))) a)) ∙ r.fill);
          sum = rw (c, ← t) (omega arith);
          after = rw (c, ← t) (sym behind ∙ r.after);
        }

  -- the end
  pub done : 26 ≤ q → Counted bits from at cs
  unfolding counts_of rest_of total
  done h =
      let u = r.high in
      let e : 26 - q ≡ 0 = omega arith in
      let p = r.place in
      let z = r.more in
      let s = rw e at r.sum in
      record { most = omega arith; are = rw e at r.fill; near = omega arith; after = rw e at r.after }

-- ---- the sides' checkers

pub over-o : (l : List Bool) → checkers < total (counts_of 25 l) → checkers < total (o_side l)
unfolding o_side total
over-o l h = omega arith

pub few-o : (l : List Bool) {end : ℕ} {counts : List ℕ} → Counted l 0 end counts → total (o_side l) ≤ checkers
unfolding o_side total
few-o l o = omega (arith, o.most)

pub over-x : (l : List Bool) {end : ℕ} {counts : List ℕ} → Counted l 0 end counts → checkers < total (counts_of 25 (drop end l)) → checkers < total (x_side l)
unfolding x_side total
over-x l o h = let g = rw o.after at h in omega arith

-- both sides read, x's from where o's ended
pub record Both (l : List Bool) (o x : List ℕ) (end : ℕ) : Type 0 where
  pub o-most : total (o_side l) ≤ checkers
  pub x-most : total (x_side l) ≤ checkers
  pub o_is : o ≡ o_side l
  pub x-is : x ≡ x_side l
  pub near : end ≤ 80
  pub after : drop end l ≡ rest_of 25 (rest_of 25 l)

pub both_read : (l : List Bool) (m : ℕ) {o x : List ℕ} {end : ℕ} → Counted l 0 m o → Counted l m end x → Both l o x end
unfolding o_side x_side total
both_read l m o x =
    let e = o.after in
    let p = o.near in
    let v : total (counts_of 25 (rest_of 25 l)) ≤ checkers = rw e at x.most in
    let q = x.near in
    record {
      o-most = few-o l o;
      x-most = omega arith;
      o_is = o.are;
      x-is = x.are ∙ rw e;
      near = omega arith;
      after = x.after ∙ rw e;
    }
