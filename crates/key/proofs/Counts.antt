-- A board's counts: the checkers of each run, and that the runs of an accepted board take at most 80 bits. Assumes nothing.
use mathlib.Core.Path.{◌≡◌, ap, ◌∙◌}
use mathlib.Core.Bool.{false}
use mathlib.Core.List.{List, [], ◌++◌}
use Prim.Native.Nat.{ℕ, ◌+◌, ◌-◌, ◌<◌, ◌≤◌}
use native.Mathlib.Omega.{arith}
use lib.IntN.{ℤ}
use lib.ListN.{length, get_or, replicate, length-append, length-replicate, get_or-append}
use lib.Seq.{get_or-append-add}
use Rattle.ints.specs.Bits.{merged}
use Rattle.ints.specs.Sums.{sum_to, values, total}
use Rattle.ints.proofs.Fields.{merged-zeros}
use Rattle.ints.proofs.Sums.{length-values, get_or-values, table_at, sum-turned, total-append, total-values}
use Rattle.position.specs.Board.{Accepted, xs, os, x_all, o_all}
use Rattle.key.specs.Key.{counts, runs, key_bits}
use Rattle.key.proofs.Runs.{length_runs}

-- o's runs and x's, of which `counts` is made
abbrev pub o_runs : List ℤ → List ℕ
o_runs b = values (λ i. os b (24 - i)) 0 25

abbrev pub x_runs : List ℤ → List ℕ
x_runs b = values (xs b) 1 25

pub length_o : (b : List ℤ) → length (o_runs b) ≡ 25
length_o b = length-values (λ i. os b (24 - i)) 0 25

pub length-x : (b : List ℤ) → length (x_runs b) ≡ 25
length-x b = length-values (xs b) 1 25

pub length-board-counts : (b : List ℤ) → length (counts b) ≡ 50
unfolding counts
length-board-counts b = length-append (o_runs b) (x_runs b) ∙ omega (arith, length_o b, length-x b)

pub count-o : (b : List ℤ) (j : ℕ) → j < 25 → get_or (counts b) j 0 ≡ os b (24 - j)
unfolding counts
count-o b j h = get_or-append (o_runs b) (x_runs b) 0 j (omega (arith, length_o b)) ∙ table_at (λ i. os b (24 - i)) 25 j 0 h

pub count-x : (b : List ℤ) (j : ℕ) → 25 ≤ j → j < 50 → get_or (counts b) j 0 ≡ xs b (j - 24)
unfolding counts
count-x b j l h =
    let e : j ≡ length (o_runs b) + (j - 25) = omega (arith, length_o b) in
    let f : 1 + (j - 25) ≡ j - 24 = omega arith in
    ap (λ (k : ℕ). get_or (o_runs b ++ x_runs b) k 0) e
    ∙ get_or-append-add (o_runs b) (x_runs b) (j - 25) 0
    ∙ get_or-values (xs b) 1 25 (j - 25) 0 (omega arith)
    ∙ ap (xs b) f

-- ---- of any board: each side's runs hold its checkers but those on the other side's bar

pub total-o : (b : List ℤ) → total (o_runs b) ≡ sum_to (os b) 25
unfolding sum_to
total-o b = omega (arith, total-values (λ i. os b (24 - i)) 0 25, sum-turned (os b) (λ i. os b (24 - i)) 25 (λ k h. ap (os b) (omega arith)))

pub total-x : (b : List ℤ) → total (x_runs b) + xs b 0 ≡ x_all b
unfolding sum_to
total-x b = omega (arith, total-values (xs b) 1 25)

-- ---- of an accepted board

module _ {n : ℕ} {b : List ℤ} (acc : Accepted n b) where
  pub o-checkers : total (o_runs b) ≡ o_all b
  unfolding sum_to
  o-checkers = omega (arith, total-o b, acc.x-bar)

  pub x-checkers : total (x_runs b) ≡ x_all b
  x-checkers = omega (arith, total-x b, acc.o-bar)

  pub total-counts : total (counts b) ≤ n + n
  unfolding counts
  total-counts = omega (arith, total-append (o_runs b) (x_runs b), o-checkers, x-checkers, acc.x-most, acc.o-most)

  -- "at most 80 bits": fifty end bits, and a bit for each checker
  module _ (few : n ≤ 15) where
    pub runs_fit : length (runs (counts b)) ≤ 80
    runs_fit = omega (arith, length_runs (counts b), length-board-counts b, total-counts)

    pub length-key-bits : length (key_bits b) ≡ 80
    unfolding key_bits
    length-key-bits =
        let m = 80 - length (runs (counts b)) in
        length-append (runs (counts b)) (replicate m false) ∙ omega (arith, length-replicate m false, runs_fit)

    -- the writer's start: all runs are still to be put, and every bit is 0
    pub put-start : merged (replicate 80 false) 0 (runs (counts b)) ≡ key_bits b
    unfolding key_bits
    put-start =
        let m = 80 - length (runs (counts b)) in
        let h = runs_fit in
        let e : length (runs (counts b)) + m ≡ 80 = omega arith in
        rw e at (merged-zeros (runs (counts b)) [] m)
