-- Laws of result and phase: the turns of the two searches, and the answer as the code's tests go, over the number n of checkers a side.
-- Assumes nothing.
use mathlib.Core.Path.{◌≡◌, ap, ◌∙◌}
use mathlib.Core.List.{List}
use Prim.Native.Nat.{ℕ, suc, ◌+◌, ◌-◌, ◌≤◌, ◌<◌}
use native.Mathlib.Omega.{arith}
use borrow.Author.Tests.{lt-ltb, le-ltb, eq-eqb, ne_eqb}
use lib.IntN.{ℤ}
use Rattle.ints.specs.Answer.{value, refused}
use Rattle.ints.specs.Sums.{sum_to}
use Rattle.position.specs.Board.{xs, os, x_all, o_all, refusal_of}
use Rattle.position.specs.Phase.{highest, lowest, phase_of, phase_answer}

module _ (f : ℕ → ℕ) (i : ℕ) where
  pred-suc : 0 < i → i ≡ suc (i - 1)
  pred-suc h = omega arith

  pub highest-here : 0 < i → 0 < f (i - 1) → highest f i ≡ i - 1
  unfolding highest
  highest-here h p = ap (highest f) (pred-suc h) ∙ rw (lt-ltb 0 (f (i - 1)) p)

  pub highest-less : 0 < i → f (i - 1) ≡ 0 → highest f i ≡ highest f (i - 1)
  unfolding highest
  highest-less h e = ap (highest f) (pred-suc h) ∙ rw (le-ltb 0 (f (i - 1)) (omega arith))

  module _ (m : ℕ) (h : i < m) where
    one_more : m - i ≡ suc (m - (i + 1))
    one_more = omega arith

    pub lowest-here : 0 < f i → lowest f i (m - i) ≡ i
    unfolding lowest
    lowest-here p = ap (lowest f i) one_more ∙ rw (lt-ltb 0 (f i) p)

    pub lowest-more : f i ≡ 0 → lowest f i (m - i) ≡ lowest f (i + 1) (m - (i + 1))
    unfolding lowest
    lowest-more z = ap (lowest f i) one_more ∙ rw (le-ltb 0 (f i) (omega arith))

module _ (n : ℕ) (b : List ℤ) where
  pub phase-refused : 0 < refusal_of n b → refused (refusal_of n b) 0 ≡ phase_answer n b
  unfolding phase_answer
  phase-refused h = rw (lt-ltb 0 (refusal_of n b) h)

  module _ (ok : refusal_of n b ≡ 0) where
    pub phase-empty : x_all b ≡ 0 → o_all b ≡ 0 → refused 6 0 ≡ phase_answer n b
    unfolding phase_answer
    phase-empty x o = rw (le-ltb 0 (refusal_of n b) (omega arith), eq-eqb (x_all b + o_all b) 0 (omega arith))

    told : 0 < x_all b + o_all b → value (phase_of n b) ≡ phase_answer n b
    unfolding phase_answer
    told h = rw (le-ltb 0 (refusal_of n b) (omega arith), ne_eqb (x_all b + o_all b) 0 (λ e. omega arith))

    module _ (x : x_all b ≡ 0) (o : 0 < o_all b) where
      pub win-normal : o_all b < n → value 2 ≡ phase_answer n b
      unfolding phase_of
      win-normal h = rw (← told (omega arith), eq-eqb (x_all b) 0 x, lt-ltb (o_all b) n h)

      pub win-bg : n ≤ o_all b → 0 < sum_to (os b) 7 → value 4 ≡ phase_answer n b
      unfolding phase_of
      win-bg h k = rw (← told (omega arith), eq-eqb (x_all b) 0 x, le-ltb (o_all b) n h, lt-ltb 0 (sum_to (os b) 7) k)

      pub win-gammon : n ≤ o_all b → sum_to (os b) 7 ≡ 0 → value 3 ≡ phase_answer n b
      unfolding phase_of
      win-gammon h k = rw (← told (omega arith), eq-eqb (x_all b) 0 x, le-ltb (o_all b) n h, le-ltb 0 (sum_to (os b) 7) (omega arith))

    module _ (x : 0 < x_all b) where
      module _ (o : o_all b ≡ 0) where
        pub lose-normal : x_all b < n → value 5 ≡ phase_answer n b
        unfolding phase_of
        lose-normal h = rw (← told (omega arith), ne_eqb (x_all b) 0 (λ e. omega arith), eq-eqb (o_all b) 0 o, lt-ltb (x_all b) n h)

        pub lose-bg : n ≤ x_all b → sum_to (xs b) 19 < x_all b → value 7 ≡ phase_answer n b
        unfolding phase_of
        lose-bg h k =
            rw (← told (omega arith), ne_eqb (x_all b) 0 (λ e. omega arith), eq-eqb (o_all b) 0 o, le-ltb (x_all b) n h, lt-ltb (sum_to (xs b) 19) (x_all b) k)

        pub lose-gammon : n ≤ x_all b → x_all b ≤ sum_to (xs b) 19 → value 6 ≡ phase_answer n b
        unfolding phase_of
        lose-gammon h k =
            rw (← told (omega arith), ne_eqb (x_all b) 0 (λ e. omega arith), eq-eqb (o_all b) 0 o, le-ltb (x_all b) n h, le-ltb (sum_to (xs b) 19) (x_all b) k)

      module _ (o : 0 < o_all b) where
        pub contact : lowest (os b) 0 26 < highest (xs b) 26 → value 0 ≡ phase_answer n b
        unfolding phase_of
        contact h =
            rw (← told (omega arith), ne_eqb (x_all b) 0 (λ e. omega arith), ne_eqb (o_all b) 0 (λ e. omega arith), lt-ltb (lowest (os b) 0 26) (highest (xs b) 26) h)

        pub race : highest (xs b) 26 ≤ lowest (os b) 0 26 → value 1 ≡ phase_answer n b
        unfolding phase_of
        race h =
            rw (← told (omega arith), ne_eqb (x_all b) 0 (λ e. omega arith), ne_eqb (o_all b) 0 (λ e. omega arith), le-ltb (lowest (os b) 0 26) (highest (xs b) 26) h)
