-- Sums of a function over the numbers below n, and lists of its values.
-- Assumes nothing.
use mathlib.Core.Path.{◌≡◌, refl, sym, ap, ◌∙◌}
use mathlib.Core.Logic.{⊎_elim}
use mathlib.Core.List.{List, [], ◌∷◌, ◌++◌}
use Prim.Native.Nat.{ℕ, zero, suc, ◌+◌, ◌-◌, ◌≤◌, ◌<◌}
use native.Mathlib.Decide.{ℕ_discrete}
use native.Mathlib.Omega.{arith}
use native.Mathlib.Nat.{zero-add}
use native.Mathlib.Numerals.{add-one}
use borrow.Author.Tests.{eq-eqb, ne_eqb}
use lib.ListN.{length, get_or, set, length-set}
use lib.Seq.{ext_get_or, get_or-set_same, get_or-set_other}
use Rattle.ints.specs.Sums.{sum_to, values, total, one}
use Rattle.ints.proofs.Tests.{last}

-- the turn of a loop that sums
pub sum_more : (f : ℕ → ℕ) (n : ℕ) → sum_to f (n + 1) ≡ sum_to f n + f n
unfolding sum_to
sum_more f n = rw add-one

-- a part is at most the sum
pub part-le : (f : ℕ → ℕ) (n k : ℕ) → k < n → f k ≤ sum_to f n
unfolding sum_to
part-le f zero k h = absurd (omega arith)
part-le f (suc n) k h =
    ⊎_elim (λ (e : k ≡ n). omega (arith, ap f e)) (λ (l : k < n). omega (arith, part-le f n k l)) (last h)

-- functions that agree have one sum
pub sum_same : (f g : ℕ → ℕ) (n : ℕ) → ((k : ℕ) → k < n → f k ≡ g k) → sum_to f n ≡ sum_to g n
unfolding sum_to
sum_same f g zero h = refl
sum_same f g (suc n) h = omega (arith, sum_same f g n (λ k l. h k (omega arith)), h n (omega arith))

-- a list of values: its length and what stands where
pub length-values : {A : Type 0} (f : ℕ → A) (i n : ℕ) → length (values f i n) ≡ n
unfolding values
length-values f i zero = refl
length-values f i (suc n) = ap suc (length-values f (suc i) n)

pub get_or-values : {A : Type 0} (f : ℕ → A) (i n k : ℕ) (d : A) → k < n → get_or (values f i n) k d ≡ f (i + k)
unfolding values
get_or-values f i zero k d h = absurd (omega arith)
get_or-values f i (suc n) zero d h = let e : i ≡ i + zero = omega arith in ap f e
get_or-values f i (suc n) (suc k) d h =
    let e : suc i + k ≡ i + suc k = omega arith in
    get_or-values f (suc i) n k d (omega arith) ∙ ap f e

-- the values from 0 on are a table of f
pub table_at : {A : Type 0} (f : ℕ → A) (n k : ℕ) (d : A) → k < n → get_or (values f 0 n) k d ≡ f k
table_at f n k d h = get_or-values f 0 n k d h ∙ ap f (zero-add k)

-- a list whose entries are those of a table is the table
pub table_is : {A : Type 0} (f : ℕ → A) (n : ℕ) (l : List A) (d : A) → length l ≡ n → ((k : ℕ) → k < n → get_or l k d ≡ f k) → l ≡ values f 0 n
table_is f n l d e h =
    ext_get_or d l (values f 0 n) (e ∙ sym (length-values f 0 n))
    (λ k m. h k (omega arith) ∙ sym (table_at f n k d (omega arith)))

-- a table that a loop fills from its last place down: the i last of n places hold f's values
pub record Filled {A : Type 0} (f : ℕ → A) (d : A) (n : ℕ) (l : List A) (i : ℕ) : Type 0 where
  pub most : i ≤ n
  pub size : length l ≡ n
  pub at : (k : ℕ) → k < n → n ≤ k + i → get_or l k d ≡ f k

-- the loop's turn stores the value of the place before those
pub filled_more : {A : Type 0} {f : ℕ → A} {d : A} {n : ℕ} {l : List A} {i : ℕ} (j : ℕ) (x : A) → j + i + 1 ≡ n → x ≡ f j
    → Filled f d n l i → Filled f d n (set l j x) (i + 1)
filled_more {A} {f} {d} {n} {l} {i} j x h e v =
    let s = v.size in
    record {
      most = omega arith;
      size = length-set l j x ∙ s;
      at = λ k m r. elim (ℕ_discrete k j) [
        | yes q ↦ rw q (get_or-set_same l j x d (omega arith) ∙ e)
        | no m' ↦ get_or-set_other l j k x d m' ∙ v.at k m (omega (arith, m'))
      ];
    }

-- the first part, in front
pub sum-front : (f : ℕ → ℕ) (n : ℕ) → sum_to f (suc n) ≡ f 0 + sum_to (λ k. f (suc k)) n
unfolding sum_to
sum-front f zero = omega arith
sum-front f (suc n) = omega (arith, sum-front f n)

-- a sum the other way round
pub sum-turned : (f g : ℕ → ℕ) (n : ℕ) → ((k : ℕ) → k < n → g k ≡ f (n - suc k)) → sum_to g n ≡ sum_to f n
unfolding sum_to
sum-turned f g zero h = refl
sum-turned f g (suc n) h =
    sum-front g n
    ∙ omega (arith, h 0 (omega arith), sum-turned f (λ k. g (suc k)) n (λ k l. h (suc k) (omega arith) ∙ ap f (omega arith)), ap f (first n))
  where
    first : (n : ℕ) → suc n - suc 0 ≡ n
    first n = omega arith

-- a sum of nothing
pub sum-zero : (f : ℕ → ℕ) (n : ℕ) → ((k : ℕ) → k < n → f k ≡ 0) → sum_to f n ≡ 0
unfolding sum_to
sum-zero f zero h = refl
sum-zero f (suc n) h = omega (arith, sum-zero f n (λ k l. h k (omega arith)), h n (omega arith))

-- a sum of sums
pub sum-plus : (f g : ℕ → ℕ) (n : ℕ) → sum_to (λ k. f k + g k) n ≡ sum_to f n + sum_to g n
unfolding sum_to
sum-plus f g zero = refl
sum-plus f g (suc n) = omega (arith, sum-plus f g n)

-- ---- the sum of a list

pub total-append : (l m : List ℕ) → total (l ++ m) ≡ total l + total m
unfolding total
total-append [] m = omega arith
total-append (n ∷ l) m = omega (arith, total-append l m)

pub part-total : (l : List ℕ) (k : ℕ) → get_or l k 0 ≤ total l
unfolding total
part-total [] k = omega arith
part-total (n ∷ l) zero = omega arith
part-total (n ∷ l) (suc k) = omega (arith, part-total l k)

-- the values from i on are what the sum below i lacks
pub total-values : (f : ℕ → ℕ) (i n : ℕ) → total (values f i n) + sum_to f i ≡ sum_to f (i + n)
unfolding values total sum_to
total-values f i zero = let e : i + zero ≡ i = omega arith in rw e (omega arith)
total-values f i (suc n) =
    let e : i + suc n ≡ suc i + n = omega arith in
    let s = total-values f (suc i) n in
    rw e (omega arith)

-- ---- the one place

pub one_same : (p i : ℕ) → p ≡ i → one p i ≡ 1
unfolding one
one_same p i e = rw (eq-eqb p i e)

pub one-other : (p i : ℕ) → (p ≡ i → ⊥) → one p i ≡ 0
unfolding one
one-other p i h = rw (ne_eqb p i h)

-- it is passed over once
pub sum_one : (p n : ℕ) → p < n → sum_to (one p) n ≡ 1
unfolding sum_to
sum_one p zero h = absurd (omega arith)
sum_one p (suc n) h =
    ⊎_elim
    (λ (e : p ≡ n). omega (arith, sum-zero (one p) n (λ k l. one-other p k (λ q. omega arith)), one_same p n e))
    (λ (l : p < n). omega (arith, sum_one p n l, one-other p n (λ e. omega arith)))
    (last h)
