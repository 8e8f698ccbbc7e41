-- What was written is read: the key of an accepted board is not refused and gives the board back, so different boards have different
-- keys. Over any number n of checkers a side up to fifteen. Assumes nothing.
use mathlib.Core.Path.{◌≡◌, refl, sym, ap, ap₂, ◌∙◌}
use mathlib.Core.Bool.{Bool, false, ◌&&◌, and-false}
use mathlib.Core.List.{List, ◌++◌, append_assoc}
use Prim.Native.Nat.{ℕ, zero, suc, ◌+◌, ◌-◌, ◌<◌, ◌≤◌}
use native.Mathlib.Omega.{arith}
use lib.Dec.{ltb}
use lib.IntN.{ℤ, pos, ◌-ℤ◌}
use lib.ListN.{length, get_or, replicate}
use Rattle.ints.specs.Signed.{pos_part, neg_part}
use Rattle.ints.specs.Bits.{bits_of, some}
use Rattle.ints.specs.Sums.{values, total}
use Rattle.ints.proofs.Signed.{apart, less, same_parts}
use Rattle.ints.proofs.Bits.{bits-bytes, none-if, zeros-none}
use Rattle.ints.proofs.Sums.{length-values, get_or-values, table_at, table_is}
use Rattle.position.specs.Board.{Accepted, entry, xs, os}
use Rattle.position.proofs.Boards.{accepted-unrefused}
use Rattle.key.specs.Key.{counts, runs, key_bits, key_of, counts_of, rest_of, o_side, x_side, meets, board_from, board_of, bits_refusal, key_refusal, KeyAnswer, key_answer, board_of_key_answer}
use Rattle.key.proofs.Runs.{counts-runs, rest-runs, runs_append}
use Rattle.key.proofs.Counts.{o_runs, x_runs, length_o, length-x, o-checkers, x-checkers, length-key-bits}
use Rattle.key.proofs.Answers.{refusal-0, key-answered, board-answered}

-- ---- the bits of any board's key

module _ (b : List ℤ) where
  -- the 0s after the last run
  abbrev pad : List Bool
  pad = replicate (80 - length (runs (counts b))) false

  key-parts : key_bits b ≡ runs (o_runs b) ++ (runs (x_runs b) ++ pad)
  unfolding key_bits counts
  key-parts = ap (λ (l : List Bool). l ++ pad) (runs_append (o_runs b) (x_runs b)) ∙ append_assoc (runs (o_runs b)) (runs (x_runs b)) pad

  o-read : counts_of 25 (key_bits b) ≡ o_runs b
  o-read =
      let e = counts-runs (o_runs b) (runs (x_runs b) ++ pad) in
      ap (counts_of 25) key-parts ∙ (rw (length_o b) at e)

  o-rest : rest_of 25 (key_bits b) ≡ runs (x_runs b) ++ pad
  o-rest =
      let e = rest-runs (o_runs b) (runs (x_runs b) ++ pad) in
      ap (rest_of 25) key-parts ∙ (rw (length_o b) at e)

  x-read : counts_of 25 (rest_of 25 (key_bits b)) ≡ x_runs b
  x-read =
      let e = counts-runs (x_runs b) pad in
      ap (counts_of 25) o-rest ∙ (rw (length-x b) at e)

  x-rest : rest_of 25 (rest_of 25 (key_bits b)) ≡ pad
  x-rest =
      let e = rest-runs (x_runs b) pad in
      ap (rest_of 25) o-rest ∙ (rw (length-x b) at e)

-- ---- what is read of an accepted board's key

module _ {n : ℕ} {b : List ℤ} (acc : Accepted n b) where
  x-at : (p : ℕ) → p < 26 → get_or (x_side (key_bits b)) p 0 ≡ xs b p
  unfolding x_side
  x-at zero h = sym acc.o-bar
  x-at (suc p) h = ap (λ (l : List ℕ). get_or l p 0) (x-read b) ∙ get_or-values (xs b) 1 25 p 0 (omega arith) ∙ ap (xs b) (next p)
    where
      next : (p : ℕ) → 1 + p ≡ suc p
      next p = omega arith

  o-at : (p : ℕ) → p < 26 → get_or (o_side (key_bits b)) (25 - p) 0 ≡ os b p
  unfolding o_side
  o-at p h = by (25 - p) refl
    where
      by : (q : ℕ) → 25 - p ≡ q → get_or (o_side (key_bits b)) q 0 ≡ os b p
      by zero e = let z : p ≡ 25 = omega arith in sym (ap (os b) z ∙ acc.x-bar)
      by (suc q) e =
          let z : 24 - q ≡ p = omega arith in
          ap (λ (l : List ℕ). get_or l q 0) (o-read b) ∙ table_at (λ i. os b (24 - i)) 25 q 0 (omega arith) ∙ ap (os b) z

  o-few : total (o_side (key_bits b)) ≤ n
  unfolding o_side total
  o-few = rw (o-read b) (omega (arith, o-checkers acc, acc.o-most))

  x-few : total (x_side (key_bits b)) ≤ n
  unfolding x_side total
  x-few = rw (x-read b) (omega (arith, x-checkers acc, acc.x-most))

  -- no entry holds both sides
  none-meet : some (values (meets (x_side (key_bits b)) (o_side (key_bits b))) 0 26) ≡ false
  none-meet =
      let f = meets (x_side (key_bits b)) (o_side (key_bits b)) in
      none-if (values f 0 26)
      (λ p h.
      let l : p < 26 = omega (arith, length-values f 0 26) in
      table_at f 26 p false l ∙ ap₂ both (x-at p l) (o-at p l) ∙ never (xs b p) (os b p) (apart (entry b p)))
    where
      both : ℕ → ℕ → Bool
      both x o = ltb 0 x && ltb 0 o

      never : (x o : ℕ) → x - o ≡ x → (ltb 0 x && ltb 0 o) ≡ false
      never zero o e = refl
      never (suc x) zero e = and-false (ltb 0 (suc x))
      never (suc x) (suc o) e = absurd (omega arith)

  entries-read : board_from (x_side (key_bits b)) (o_side (key_bits b)) ≡ b
  unfolding board_from
  entries-read =
      sym (table_is (λ p. pos (get_or (x_side (key_bits b)) p 0) -ℤ pos (get_or (o_side (key_bits b)) (25 - p) 0)) 26 b (pos 0) acc.size
      (λ p h. rw (x-at p h, o-at p h) (whole (entry b p))))
    where
      whole : (z : ℤ) → z ≡ pos (pos_part z) -ℤ pos (neg_part z)
      whole z =
          let l = less (pos (pos_part z)) (pos (neg_part z)) in
          let a = apart (pos (pos_part z) -ℤ pos (neg_part z)) in
          let d = apart z in
          same_parts z (pos (pos_part z) -ℤ pos (neg_part z)) (omega arith) (omega arith)

  module _ (few : n ≤ 15) where
    bits-of-key : bits_of (key_of b) ≡ key_bits b
    unfolding key_of
    bits-of-key = bits-bytes 10 (key_bits b) (length-key-bits acc few)

    -- what was written is accepted
    pub written-accepted : key_refusal n (key_of b) ≡ 0
    unfolding key_refusal
    written-accepted =
        ap (bits_refusal n) bits-of-key ∙ sym (refusal-0 n (key_bits b) o-few x-few none-meet (ap some (x-rest b) ∙ zeros-none (80 - length (runs (counts b)))))

    -- and read back it is the board
    pub read-written : board_of (key_of b) ≡ b
    unfolding board_of
    read-written = ap (λ (l : List Bool). board_from (x_side l) (o_side l)) bits-of-key ∙ entries-read

    -- the same of the two answers: the key that is answered is answered with the board
    pub answered-back : board_of_key_answer n (key_answer n b).key ≡ record { refused = 0; board = b }
    unfolding key_refusal
    answered-back =
        ap (λ (a : KeyAnswer). board_of_key_answer n a.key) (sym (key-answered n b (accepted-unrefused n b acc) (key_of b) refl))
        ∙ sym (board-answered n (key_of b) (sym written-accepted) b (sym read-written))

-- different boards, different keys
pub different-keys : (n : ℕ) (a b : List ℤ) → n ≤ 15 → Accepted n a → Accepted n b → key_of a ≡ key_of b → a ≡ b
different-keys n a b few p q e = sym (read-written p few) ∙ ap board_of e ∙ read-written q few
