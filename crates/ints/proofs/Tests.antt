-- Tests as facts: what `◌&&◌`, `all` and `cond` tell, and are told by.
use mathlib.Core.Path.{◌≡◌, refl, sym, ap, ◌∙◌}
use mathlib.Core.Bool.{Bool, true, false, cond, ◌&&◌, and-false}
use mathlib.Core.Logic.{◌⊎◌, inl, inr, ⊎_elim}
use Prim.Native.Nat.{ℕ, zero, suc, ◌+◌, ◌≤◌, ◌<◌}
use native.Mathlib.Nat.{eq-or-lt_of_le, le_of_suc-le-suc}
use native.Mathlib.Numerals.{add-one}
use native.Mathlib.Omega.{arith}
use lib.Dec.{ltb}
use borrow.Author.Tests.{ltb-true, ltb-false}
use Rattle.ints.specs.Sums.{all}

-- any two answers that are what a promise says are equal
pub one_answer : {A : Type 0} {a r s : A} → r ≡ a → s ≡ a → r ≡ s
one_answer p q = p ∙ sym q

-- a number is below k, or not
pub lt-or-le : (n k : ℕ) → (n < k) ⊎ (k ≤ n)
lt-or-le n k = go (ltb n k) refl
  where
    go : (t : Bool) → ltb n k ≡ t → (n < k) ⊎ (k ≤ n)
    go true e = inl (ltb-true n k e)
    go false e = inr (ltb-false n k e)

-- a number below n + 1 is n, or below n
pub last : {k n : ℕ} → k < suc n → (k ≡ n) ⊎ (k < n)
last h = eq-or-lt_of_le (le_of_suc-le-suc h)

-- the same at the code's n + 1
pub last_more : {k : ℕ} (n : ℕ) → k < n + 1 → (k ≡ n) ⊎ (k < n)
last_more n h = last (rw add-one at h)

pub and_left : (a b : Bool) → a && b ≡ true → a ≡ true
and_left true b e = refl
and_left false b e = e

pub and_right : (a b : Bool) → a && b ≡ true → b ≡ true
and_right true b e = e
and_right false true e = refl
and_right false false e = e

pub and_both : (a b : Bool) → a ≡ true → b ≡ true → a && b ≡ true
and_both a b e f = rw (e, f)

-- by the test that a value turns on
pub by_cond : {A : Type 0} (t : Bool) (x y : A) (P : A → Type 0) → (t ≡ true → P x) → (t ≡ false → P y) → P (cond t x y)
by_cond true x y P f g = f refl
by_cond false x y P f g = g refl

pub all_yes : (f : ℕ → Bool) (n : ℕ) → ((k : ℕ) → k < n → f k ≡ true) → all f n ≡ true
unfolding all
all_yes f zero h = refl
all_yes f (suc n) h = rw (all_yes f n (λ k l. h k (omega arith)), h n (omega arith))

pub all-no : (f : ℕ → Bool) (n k : ℕ) → k < n → f k ≡ false → all f n ≡ false
unfolding all
all-no f zero k l e = absurd (omega arith)
all-no f (suc n) k l e =
    ⊎_elim (λ (q : k ≡ n). rw (ap f (sym q) ∙ e) (and-false (all f n))) (λ (m : k < n). rw (all-no f n k m e)) (last l)

pub all-at : (f : ℕ → Bool) (n k : ℕ) → all f n ≡ true → k < n → f k ≡ true
unfolding all
all-at f zero k e l = absurd (omega arith)
all-at f (suc n) k e l =
    ⊎_elim (λ (q : k ≡ n). ap f q ∙ and_right (all f n) (f n) e) (λ (m : k < n). all-at f n k (and_left (all f n) (f n) e) m) (last l)
