-- What the writer and the reader answer, by the tests that led there. Assumes nothing.
use mathlib.Core.Path.{◌≡◌, sym, ap, ap₂, ◌∙◌}
use mathlib.Core.Bool.{Bool, true, false}
use mathlib.Core.List.{List}
use Prim.Native.Nat.{ℕ, ◌<◌, ◌≤◌}
use borrow.Author.Tests.{ne_eqb, eq-eqb, lt-ltb, le-ltb}
use lib.IntN.{ℤ}
use lib.ListN.{replicate}
use Rattle.ints.specs.Bits.{bits_of, some}
use Rattle.ints.specs.Sums.{values, total}
use Rattle.position.specs.Board.{refusal_of}
use Rattle.position.specs.Answers.{board_answer, board_told}
use Rattle.ints.specs.Refusals.{number}
use Rattle.ints.specs.declared.refusal.Refusal.{Refusal}
use Rattle.ints.proofs.Refusals.{number-pos}
use native.Mathlib.Omega.{arith}
use Rattle.std.proofs.Common.{Ok, Err}
use Rattle.position.proofs.Answering.{err-told, ok-told}
use Rattle.key.specs.Key.{key_of, KeyAnswer, key_told, key_answer, rest_of, o_side, x_side, meets, bits_refusal, key_refusal, board_of, board_of_key_answer}

-- ---- the writer's answer

abbrev whole : ℕ → List ℕ → KeyAnswer
whole n k = record { refused = n; key = k }

module _ (n : ℕ) (b : List ℤ) where
  pub key-refused : (r : Refusal) → number r ≡ refusal_of n b → key_told (Err r) ≡ key_answer n b
  unfolding key_answer
  key-refused r e = rw (ne_eqb (refusal_of n b) 0 (λ z. omega (arith, number-pos r))) (ap (λ (m : ℕ). whole m (replicate 10 0)) e)

  pub key-answered : refusal_of n b ≡ 0 → (k : List ℕ) → k ≡ key_of b → key_told (Ok k) ≡ key_answer n b
  unfolding key_answer
  key-answered z k e = rw (eq-eqb (refusal_of n b) 0 z) (ap₂ whole (sym z) e)

-- ---- a key's refusal, by the first test that holds

module _ (n : ℕ) (l : List Bool) where
  pub refusal-15 : n < total (o_side l) → 15 ≡ bits_refusal n l
  unfolding bits_refusal
  refusal-15 h = rw (lt-ltb n (total (o_side l)) h)

  module _ (o : total (o_side l) ≤ n) where
    pub refusal-16 : n < total (x_side l) → 16 ≡ bits_refusal n l
    unfolding bits_refusal
    refusal-16 h = rw (le-ltb n (total (o_side l)) o, lt-ltb n (total (x_side l)) h)

    module _ (x : total (x_side l) ≤ n) where
      pub refusal-17 : some (values (meets (x_side l) (o_side l)) 0 26) ≡ true → 17 ≡ bits_refusal n l
      unfolding bits_refusal
      refusal-17 e = rw (le-ltb n (total (o_side l)) o, le-ltb n (total (x_side l)) x, e)

      module _ (m : some (values (meets (x_side l) (o_side l)) 0 26) ≡ false) where
        pub refusal-18 : some (rest_of 25 (rest_of 25 l)) ≡ true → 18 ≡ bits_refusal n l
        unfolding bits_refusal
        refusal-18 e = rw (le-ltb n (total (o_side l)) o, le-ltb n (total (x_side l)) x, m, e)

        pub refusal-0 : some (rest_of 25 (rest_of 25 l)) ≡ false → 0 ≡ bits_refusal n l
        unfolding bits_refusal
        refusal-0 e = rw (le-ltb n (total (o_side l)) o, le-ltb n (total (x_side l)) x, m, e)

-- ---- the reader's answer

module _ (n : ℕ) (k : List ℕ) where
  pub board-refused : (r : Refusal) → number r ≡ bits_refusal n (bits_of k) → board_told (Err r) ≡ board_of_key_answer n k
  unfolding board_of_key_answer key_refusal
  board-refused r e = err-told r (board_of k) (bits_refusal n (bits_of k)) e

  pub board-answered : 0 ≡ bits_refusal n (bits_of k) → (b : List ℤ) → b ≡ board_of k → board_told (Ok b) ≡ board_of_key_answer n k
  unfolding board_of_key_answer key_refusal
  board-answered e b f =
      ap (λ (l : List ℤ). board_told (Ok l)) f ∙ ok-told (board_of k) ∙ ap (λ (i : ℕ). board_answer i (board_of k)) e
