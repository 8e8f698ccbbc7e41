-- What is accepted was written: the board that a key gives is accepted and has that key, so the reader accepts exactly the keys of
-- accepted boards. Over any number n of checkers a side up to fifteen. Assumes nothing.
use mathlib.Core.Path.{◌≡◌, refl, sym, ap, ap₂, ◌∙◌}
use mathlib.Core.Bool.{Bool, true, false, ◌&&◌}
use mathlib.Core.List.{List, ◌++◌, append_assoc}
use mathlib.Core.Logic.{◌⊎◌, inl, inr}
use Prim.Native.Nat.{ℕ, zero, suc, ◌+◌, ◌-◌, ◌<◌, ◌≤◌}
use native.Mathlib.Omega.{arith}
use borrow.Author.Tests.{lt-ltb}
use lib.Dec.{ltb}
use lib.IntN.{ℤ, pos, ◌-ℤ◌}
use lib.ListN.{length, get_or, replicate, length-append}
use lib.Seq.{ext_get_or}
use Rattle.ints.specs.Signed.{pos_part, neg_part}
use Rattle.ints.specs.Bits.{bits_of, bytes_of, Bytes, some}
use Rattle.ints.specs.Sums.{sum_to, values, total}
use Rattle.ints.proofs.Tests.{lt-or-le}
use Rattle.ints.proofs.Signed.{apart, less}
use Rattle.ints.proofs.Bits.{length-bits, bytes_bits, none-at, none-zeros}
use Rattle.ints.proofs.Sums.{length-values, get_or-values, table_at}
use Rattle.position.specs.Board.{Accepted, xs, os}
use Rattle.key.specs.Key.{counts, runs, key_bits, key_of, counts_of, rest_of, o_side, x_side, meets, board_from, board_of, bits_refusal, key_refusal}
use Rattle.key.proofs.Runs.{runs-counts, runs_append, length_runs, length-counts}
use Rattle.key.proofs.Counts.{o_runs, x_runs, length_o, length-x, total-o, total-x}
use Rattle.key.proofs.Answers.{refusal-15, refusal-16, refusal-17, refusal-18}
use Rattle.key.proofs.ReadBack.{written-accepted}

-- what holds of the bits of a key that is not refused
record Fine (n : ℕ) (l : List Bool) : Type 0 where
  o-most : total (o_side l) ≤ n
  x-most : total (x_side l) ≤ n
  apart : some (values (meets (x_side l) (o_side l)) 0 26) ≡ false
  ended : some (rest_of 25 (rest_of 25 l)) ≡ false

fine : (n : ℕ) (l : List Bool) → bits_refusal n l ≡ 0 → Fine n l
fine n l e =
    go (lt-or-le n (total (o_side l))) (lt-or-le n (total (x_side l))) (some (values (meets (x_side l) (o_side l)) 0 26)) refl
    (some (rest_of 25 (rest_of 25 l))) refl
  where
    not : {X : Type 0} (m : ℕ) → m ≡ bits_refusal n l → 0 < m → X
    not m f h = let r : ⊥ = omega arith in absurd r

    go : (n < total (o_side l)) ⊎ (total (o_side l) ≤ n) → (n < total (x_side l)) ⊎ (total (x_side l) ≤ n)
        → (m : Bool) → some (values (meets (x_side l) (o_side l)) 0 26) ≡ m → (s : Bool) → some (rest_of 25 (rest_of 25 l)) ≡ s → Fine n l
    go (inl h) x m p s q = not 15 (refusal-15 n l h) (omega arith)
    go (inr o) (inl h) m p s q = not 16 (refusal-16 n l o h) (omega arith)
    go (inr o) (inr x) true p s q = not 17 (refusal-17 n l o x p) (omega arith)
    go (inr o) (inr x) false p true q = not 18 (refusal-18 n l o x p q) (omega arith)
    go (inr o) (inr x) false p false q = record { o-most = o; x-most = x; apart = p; ended = q }

-- the parts of a difference of which one side is 0
parts : (x o : ℕ) → (ltb 0 x && ltb 0 o) ≡ false → (pos_part (pos x -ℤ pos o) ≡ x) × (neg_part (pos x -ℤ pos o) ≡ o)
parts x o e =
    let l = less (pos x) (pos o) in
    let d = apart (pos x -ℤ pos o) in
    let z = lone x o e in
    (omega arith, omega arith)
  where
    lone : (x o : ℕ) → (ltb 0 x && ltb 0 o) ≡ false → x - o ≡ x
    lone zero o e = omega arith
    lone (suc x) zero e = omega arith
    lone (suc x) (suc o) e =
        let z : ◌≡◌ {A = Bool} true false = sym (ap₂ ◌&&◌ (lt-ltb 0 (suc x) (omega arith)) (lt-ltb 0 (suc o) (omega arith))) ∙ e in
        cc

size-read : (k : List ℕ) → length (board_of k) ≡ 26
unfolding board_of board_from
size-read k = length-values (λ p. pos (get_or (x_side (bits_of k)) p 0) -ℤ pos (get_or (o_side (bits_of k)) (25 - p) 0)) 0 26

module _ (n : ℕ) (k : List ℕ) (e : key_refusal n k ≡ 0) where
  ok : Fine n (bits_of k)
  unfolding key_refusal
  ok = fine n (bits_of k) e

  -- each side's checkers on the board are those of its runs
  at_both : (p : ℕ) → p < 26 → (xs (board_of k) p ≡ get_or (x_side (bits_of k)) p 0) × (os (board_of k) p ≡ get_or (o_side (bits_of k)) (25 - p) 0)
  unfolding board_of board_from
  at_both p h =
      let x = x_side (bits_of k) in
      let o = o_side (bits_of k) in
      let a = table_at (λ p. pos (get_or x p 0) -ℤ pos (get_or o (25 - p) 0)) 26 p (pos 0) h in
      let m = sym (table_at (meets x o) 26 p false h) ∙ none-at (values (meets x o) 0 26) p ok.apart in
      rw a (parts (get_or x p 0) (get_or o (25 - p) 0) m)

  o-list : o_runs (board_of k) ≡ counts_of 25 (bits_of k)
  unfolding o_side
  o-list =
      ext_get_or 0 (o_runs (board_of k)) (counts_of 25 (bits_of k)) (length_o (board_of k) ∙ sym (length-counts 25 (bits_of k)))
      (λ j h.
      let l : j < 25 = omega (arith, length_o (board_of k)) in
      let q : 25 - (24 - j) ≡ suc j = omega arith in
      table_at (λ i. os (board_of k) (24 - i)) 25 j 0 l ∙ (at_both (24 - j) (omega arith)).1 ∙ ap (λ (i : ℕ). get_or (o_side (bits_of k)) i 0) q)

  x-list : x_runs (board_of k) ≡ counts_of 25 (rest_of 25 (bits_of k))
  unfolding x_side
  x-list =
      ext_get_or 0 (x_runs (board_of k)) (counts_of 25 (rest_of 25 (bits_of k))) (length-x (board_of k) ∙ sym (length-counts 25 (rest_of 25 (bits_of k))))
      (λ j h.
      let l : j < 25 = omega (arith, length-x (board_of k)) in
      let q : 1 + j ≡ suc j = omega arith in
      get_or-values (xs (board_of k)) 1 25 j 0 l ∙ (at_both (1 + j) (omega arith)).0 ∙ ap (λ (i : ℕ). get_or (x_side (bits_of k)) i 0) q)

  -- the board that is read is accepted
  pub read-accepted : Accepted n (board_of k)
  unfolding sum_to total o_side x_side
  read-accepted =
      let x0 = (at_both 0 (omega arith)).0 in
      let o25 = (at_both 25 (omega arith)).1 in
      let tx = ap total x-list in
      let to = ap total o-list in
      record {
        size = size-read k;
        x-most = omega (arith, ok.x-most, total-x (board_of k));
        o-most = omega (arith, ok.o-most, total-o (board_of k));
        x-bar = o25;
        o-bar = x0;
      }

  module _ (few : n ≤ 15) (ten : length k ≡ 10) (bytes : Bytes k) where
    bits-again : key_bits (board_of k) ≡ bits_of k
    unfolding key_bits counts o_side x_side total
    bits-again =
        let l = bits_of k in
        let r = rest_of 25 l in
        let t = rest_of 25 r in
        let o = counts_of 25 l in
        let x = counts_of 25 r in
        let w = length-bits k in
        let u = ok.o-most in
        let v = ok.x-most in
        let a = runs-counts 25 l (omega arith) in
        let i : length (runs o) + length r ≡ 80 = omega (arith, length-append (runs o) r, ap length a) in
        let c = runs-counts 25 r (omega (arith, length_runs o, length-counts 25 l)) in
        let j : length (runs x) + length t ≡ length r = omega (arith, length-append (runs x) t, ap length c) in
        let g : 80 - length (runs (o ++ x)) ≡ length t = omega (arith, ap length (runs_append o x), length-append (runs o) (runs x)) in
        ap₂ bits o-list x-list
        ∙ ap (λ (m : ℕ). runs (o ++ x) ++ replicate m false) g
        ∙ ap₂ ◌++◌ (runs_append o x) (sym (none-zeros t ok.ended))
        ∙ append_assoc (runs o) (runs x) t
        ∙ ap (λ (m : List Bool). runs o ++ m) c
        ∙ a
      where
        bits : List ℕ → List ℕ → List Bool
        bits o x = runs (o ++ x) ++ replicate (80 - length (runs (o ++ x))) false

    -- and written again it is the ten bytes
    pub written_read : key_of (board_of k) ≡ k
    unfolding key_of
    written_read = ap (bytes_of 10) bits-again ∙ (rw ten at (bytes_bits k bytes))

-- the reader accepts exactly the keys of accepted boards
pub accepts-exactly : (n : ℕ) (k : List ℕ) → n ≤ 15 → length k ≡ 10 → Bytes k
    → (key_refusal n k ≡ 0 → (b : List ℤ) × Accepted n b × (key_of b ≡ k)) × ((b : List ℤ) → Accepted n b → key_of b ≡ k → key_refusal n k ≡ 0)
accepts-exactly n k few ten bytes =
    (λ e. (board_of k, read-accepted n k e, written_read n k e few ten bytes), λ b acc e. sym (ap (key_refusal n) e) ∙ written-accepted acc few)
