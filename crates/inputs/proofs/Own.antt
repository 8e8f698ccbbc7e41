-- A number of own checkers, as code has it: an entry for x, minus an entry for o; and its row in the table.
-- Assumes nothing.
use mathlib.Core.Path.{◌≡◌, refl, ap, ◌∙◌}
use mathlib.Core.List.{List}
use borrow.Author.Count.{below_more}
use lib.ListN.{length, get_or, set, length-set}
use lib.Seq.{get_or-set_same, get_or-set_other}
use Prim.Native.Nat.{ℕ, ◌+◌, ◌-◌, ◌≤◌, ◌<◌}
use native.Mathlib.Omega.{arith}
use lib.IntN.{ℤ, pos, nat_abs, ◌+ℤ◌, ◌-ℤ◌}
use mir.Syntax.{w8}
use mir.Val.{SFits}
use Rattle.ints.specs.Signed.{pos_part, neg_part}
use Rattle.ints.proofs.Signed.{apart, plus, abs-parts, in-range, held, held-is, neg-pos_part, neg-neg_part, neg-fits, neg-held}
use Rattle.position.specs.Board.{checkers, entry, xs, os, Accepted}
use Rattle.inputs.specs.Rows.{Row}
use Rattle.position.proofs.Boards.{at-most-all, accepted-small}

-- a number of own checkers: positive where the counted side has n, negative where the other stands
pub record Own (z : ℤ) (n : ℕ) : Type 0 where
  pub is : pos_part z ≡ n
  pub most : pos_part z ≤ checkers
  pub least : neg_part z ≤ checkers

module _ {b : List ℤ} (a : Accepted checkers b) (p : ℕ) (h : p < 26) where
  pub few : (xs b p ≤ checkers) × (os b p ≤ checkers)
  few =
      let m = at-most-all b p h in
      let x = a.x-most in
      let o = a.o-most in
      (omega arith, omega arith)

  pub x-own : Own (held w8 (entry b p)) (xs b p)
  x-own =
      rw (held-is w8 (entry b p) (omega (arith, accepted-small a p)))
      (record { is = refl; most = few.0; least = few.1 })

  pub o-fits : SFits w8 (pos 0 -ℤ held w8 (entry b p))
  o-fits = neg-fits w8 (entry b p) (omega (arith, accepted-small a p))

  pub o-own : Own (held w8 (pos 0 -ℤ held w8 (entry b p))) (os b p)
  o-own =
      let y = neg-pos_part (entry b p) in
      let z = neg-neg_part (entry b p) in
      rw (neg-held w8 (entry b p) (omega (arith, accepted-small a p)))
      (record { is = y; most = omega (arith, few.1); least = omega (arith, few.0) })

-- the row: 15 less the other side's checkers, or 15 and one's own
module _ (v : ℤ) (f : SFits w8 v) (h : pos_part v ≤ checkers) (k : neg_part v ≤ checkers) where
  pub row_fits : SFits w8 (v +ℤ pos 15)
  row_fits =
      let a = plus v (pos 15) in
      let d = apart (v +ℤ pos 15) in
      record { sfits = in-range (v +ℤ pos 15) 128 (omega arith) (omega arith) }

  held-row : held w8 (held w8 v +ℤ pos 15) ≡ v +ℤ pos 15
  held-row = ap (λ (z : ℤ). held w8 (z +ℤ pos 15)) (held-is w8 v f.sfits) ∙ held-is w8 (v +ℤ pos 15) row_fits.sfits

  pub row_is : nat_abs (held w8 (held w8 v +ℤ pos 15)) ≡ pos_part v + 15 - neg_part v
  row_is =
      let a = plus v (pos 15) in
      let d = apart (v +ℤ pos 15) in
      ap nat_abs held-row ∙ omega (arith, abs-parts (v +ℤ pos 15))

-- ---- a net's points, one after another

pub row_of : {r m n : ℕ} → Row r m → m ≡ n → Row r n
row_of {r} w e = record { below = w.below; is = w.is ∙ e }

-- the first n of fifty rows are those of these counts
pub record Begun (counts : List ℕ) (l : List ℕ) (n : ℕ) : Type 0 where
  pub size : length l ≡ 50
  pub row : (k : ℕ) → k < n → Row (get_or l k 0) (get_or counts k 0)

pub begun_more : {counts : List ℕ} {l : List ℕ} {n : ℕ} (m r : ℕ) → m ≡ n + 1 → n < 50 → Row r (get_or counts n 0)
    → Begun counts l n → Begun counts (set l n r) m
begun_more {counts} {l} {n} m r e h o b =
    let s = b.size in
    rw e
    (record {
      size = length-set l n r ∙ s;
      row = below_more (λ (k : ℕ). Row (get_or (set l n r) k 0) (get_or counts k 0)) n
          (λ k h'. rw (get_or-set_other l n k r 0 (λ q. omega arith)) (b.row k h'))
          (rw (get_or-set_same l n r 0 (omega arith)) o);
    })
