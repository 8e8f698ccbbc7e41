use mathlib.Core.Path.{◌≡◌, refl, sym, ap, ◌∙◌}
use mathlib.Core.Bool.{true}
use mathlib.Core.List.{List, ◌∷◌}
use Prim.Native.Nat.{ℕ, suc, ◌+◌, ◌≤◌}
use native.Mathlib.Numerals.{add-one}
use native.Mathlib.Omega.{arith}
use lib.IntN.{ℤ}
use lib.ListN.{length, drop, replicate, drop_of_length-le}
use lib.Seq.{drop-cons}
use Rattle.ints.specs.Bits.{bits_of, bytes_of, merged}
use Rattle.ints.specs.Sums.{total}
use Rattle.ints.proofs.Bits.{length-bits, bytes_bits, bytes-zeros, bits-zeros}
use Rattle.ints.proofs.Fields.{length_merged}
use Rattle.key.specs.Key.{counts, runs, key_bits, key_of}
use Rattle.key.proofs.Runs.{put-run}
use Rattle.key.proofs.Counts.{total-counts, put-start, length-board-counts}
use Rattle.key.proofs.written.Goals as goal
use Rattle.key.proofs.written.Goals.{After-count-n}

-- the run that is written, and what is left after it
module _ (c : After-count-n) where
  abbrev board : List ℤ
  board = c.args.b

  abbrev at-run : ℕ
  at-run = c.loop-j.j

  left : drop at-run (counts board) ≡ c.count-n.result ∷ drop (suc at-run) (counts board)
  left =
      drop-cons (counts board) at-run 0 (omega (arith, length-board-counts board))
      ∙ ap (λ (n : ℕ). n ∷ drop (suc at-run) (counts board)) (sym c.count-n.ensures)

  sum_left : total (drop at-run (counts board)) ≡ c.count-n.result + total (drop (suc at-run) (counts board))
  unfolding total
  sum_left = ap total left

pub loop-j-init : goal.loop-j-init
loop-j-init c =
    let f : 15 ≤ 15 = omega arith in
    (omega (arith, total-counts c.requires), rw (bits-zeros 10) (put-start c.requires f), refl, bytes-zeros 10)

pub set_ones-requires : goal.set_ones-requires
set_ones-requires c =
    let v = c.loop-j.invariant in
    let h = sum_left (goal.at.set_ones-requires c).After-count-n in
    (omega arith, v.3)

pub overflow_add-at : goal.overflow_add-at
overflow_add-at c = let h = sum_left (goal.at.overflow_add-at c).After-count-n in omega arith

pub overflow_add-at-in-loop-j : goal.overflow_add-at-in-loop-j
overflow_add-at-in-loop-j c = let h = sum_left (goal.at.overflow_add-at-in-loop-j c).After-count-n in omega arith

pub loop-j-preserved : goal.loop-j-preserved
loop-j-preserved c =
    let l = c.loop-j in
    let n = c.count-n.result in
    let b = board (goal.at.loop-j-preserved c).After-count-n in
    let h = sum_left (goal.at.loop-j-preserved c).After-count-n in
    let e = c.set_ones.ensures.0 in (
      rw (add-one l.j) (omega arith),
      rw (add-one l.j, e)
          (sym (put-run (bits_of l.key) l.at n (drop (suc l.j) (counts b)))
          ∙ ap (λ (r : List ℕ). merged (bits_of l.key) l.at (runs r)) (sym (left (goal.at.loop-j-preserved c).After-count-n))
          ∙ l.invariant.1),
      omega (arith, l.invariant.2, length-bits c.set_ones.new.key, ap length e, length_merged (bits_of l.key) l.at (replicate n true), length-bits l.key),
      c.set_ones.ensures.1,
    )

pub returns : goal.returns
unfolding key_of runs merged
returns c =
    let l = c.loop-j in
    let b = c.args.b in
    let n : length (counts b) ≤ l.j = omega (arith, length-board-counts b) in
    let e : bits_of l.key ≡ key_bits b = ap (λ (r : List ℕ). merged (bits_of l.key) l.at (runs r)) (sym (drop_of_length-le (counts b) n)) ∙ l.invariant.1 in
    let z : length l.key ≡ 10 = l.invariant.2 in
    sym (ap (bytes_of 10) (sym e) ∙ (rw z at (bytes_bits l.key l.invariant.3)))
