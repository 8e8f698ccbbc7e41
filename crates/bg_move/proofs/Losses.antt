-- Which points lost a checker of x from one board to another.
-- Assumes nothing.
use mathlib.Core.Path.{◌≡◌, refl, sym, ap}
use mathlib.Core.Logic.{⊎_elim}
use mathlib.Core.List.{List}
use Prim.Native.Nat.{ℕ, zero, suc, ◌+◌, ◌-◌, ◌≤◌, ◌<◌}
use native.Mathlib.Omega.{arith}
use borrow.Author.Tests.{lt-ltb, le-ltb}
use lib.Dec.{ltb}
use lib.IntN.{ℤ}
use Rattle.ints.proofs.Tests.{last, by_cond}
use Rattle.position.specs.Board.{xs}
use Rattle.position.specs.Phase.{highest}
use Rattle.position.proofs.Phases.{highest-here, highest-less}
use Rattle.rules.proofs.Marks.{Mark}
use Rattle.std.specs.Prelude.{None, Some}
use Rattle.bg_move.specs.Steps.{lost, lost_next, point}

-- ---- the highest number at which a function is not 0

highest-is : (f : ℕ → ℕ) (n p : ℕ) → p < n → 0 < f p → ((i : ℕ) → p < i → i < n → f i ≡ 0) → highest f n ≡ p
unfolding highest
highest-is f zero p l h a = absurd (omega arith)
highest-is f (suc n) p l h a =
    ⊎_elim
    (λ (e : p ≡ n). let k = ap f e in rw (lt-ltb 0 (f n) (omega arith)) (omega arith))
    (λ (m : p < n). rw (le-ltb 0 (f n) (omega (arith, a n m (omega arith)))) (highest-is f n p m h (λ i u v. a i u (omega arith))))
    (last l)

highest-none : (f : ℕ → ℕ) (n : ℕ) → ((i : ℕ) → i < n → f i ≡ 0) → highest f n ≡ 0
unfolding highest
highest-none f zero a = refl
highest-none f (suc n) a = rw (le-ltb 0 (f n) (omega (arith, a n (omega arith)))) (highest-none f n (λ i l. a i (omega arith)))

-- ---- the points that lost a checker

module _ (b e : List ℤ) where
  -- p did, and none above it below n
  pub lost-at : (n p : ℕ) → p < n → xs e p < xs b p → ((i : ℕ) → p < i → i < n → xs b i ≤ xs e i) → lost b e n ≡ p
  unfolding lost
  lost-at n p l h a = highest-is (λ i. xs b i - xs e i) n p l (omega arith) (λ i u v. omega (arith, a i u v))

  pub lost-none : (n : ℕ) → ((i : ℕ) → i < n → xs b i ≤ xs e i) → lost b e n ≡ 0
  unfolding lost
  lost-none n a = highest-none (λ i. xs b i - xs e i) n (λ i l. omega (arith, a i l))

  pub lost-mark : (p : ℕ) → p ≤ 25 → Mark b e p → lost b e 26 ≡ p
  lost-mark p l m = lost-at 26 p (omega arith) m.less (λ i u v. omega (arith, m.above i u))

  module _ (f : ℕ) where
    -- the same point lost the second one too
    pub next-same : xs e f + 1 < xs b f → lost_next b e f ≡ f
    unfolding lost_next
    next-same h = rw (lt-ltb 1 (xs b f - xs e f) (omega arith))

    -- it lost one, and the next is looked for below it
    pub next-below : xs b f ≤ xs e f + 1 → lost_next b e f ≡ lost b e f
    unfolding lost_next
    next-below h = rw (le-ltb 1 (xs b f - xs e f) (omega arith))

-- no point lost one where nothing changed
pub lost-same : (b e : List ℤ) → e ≡ b → lost b e 26 ≡ 0
lost-same b e q = rw q (lost-none b b 26 (λ i l. omega arith))

-- ---- a point as the code tells it

pub point-some : (n p : ℕ) → 0 < p → n ≡ p → Some p ≡ point n
point-some zero p h e = absurd (omega arith)
point-some (suc n) p h e = ap Some (sym e)

pub point-none : (n : ℕ) → n ≡ 0 → None ≡ point n
point-none zero e = refl
point-none (suc n) e = absurd (omega arith)

pub some-point : (n p : ℕ) → Some p ≡ point n → (0 < p) × (p ≡ n)
some-point zero p e = cc
some-point (suc n) p e = let q : p ≡ suc n = cc in (omega arith, q)

pub none-point : (n : ℕ) → None ≡ point n → n ≡ 0
none-point zero e = refl
none-point (suc n) e = cc

-- ---- as the search from above goes

-- 0 alone is left: none
pub lost-low : (b e : List ℤ) (i : ℕ) → i ≤ 1 → lost b e i ≡ 0
unfolding lost highest
lost-low b e zero h = refl
lost-low b e (suc zero) h = by_cond (ltb 0 (xs b 0 - xs e 0)) 0 0 (λ k. k ≡ 0) (λ t. refl) (λ t. refl)
lost-low b e (suc (suc i)) h = absurd (omega arith)

module _ (b e : List ℤ) (i : ℕ) where
  pub lost-here : 0 < i → xs e (i - 1) < xs b (i - 1) → lost b e i ≡ i - 1
  unfolding lost
  lost-here h p = highest-here (λ k. xs b k - xs e k) i h (omega arith)

  pub lost-less : 0 < i → xs b (i - 1) ≤ xs e (i - 1) → lost b e i ≡ lost b e (i - 1)
  unfolding lost
  lost-less h p = highest-less (λ k. xs b k - xs e k) i h (omega arith)
