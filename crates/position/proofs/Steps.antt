-- What a legal step is and does, in linear facts for `omega`. Stated for any board of 26 entries with no x on o's bar.
-- Assumes nothing.
use mathlib.Core.Path.{◌≡◌, refl, sym, ap, ◌∙◌}
use mathlib.Core.Logic.{◌≢◌, ◌⊎◌, inl, inr}
use mathlib.Core.Bool.{Bool, true, false, cond, ◌&&◌, and-false}
use mathlib.Core.List.{List}
use Prim.Native.Nat.{ℕ, ◌+◌, ◌-◌, ◌≤◌, ◌<◌}
use native.Mathlib.Decide.{ℕ_discrete, dec_lt}
use native.Mathlib.Omega.{arith}
use lib.Dec.{leb, ltb, eqb}
use borrow.Author.Tests.{ltb-true, eqb-true, leb-true, lt-ltb, le-ltb, le-leb, eq-eqb, ne_eqb}
use lib.IntN.{ℤ, pos, suc_ℤ, pred_ℤ}
use lib.ListN.{length, set, length-set}
use Rattle.ints.specs.Sums.{sum_to, one}
use Rattle.ints.proofs.Signed.{pred-above, pred-below, suc-above}
use Rattle.ints.proofs.Sums.{sum_same, sum-zero, sum-plus, sum_one, one_same, one-other}
use Rattle.ints.proofs.Tests.{and_left, and_right, and_both, all_yes, all-no, all-at}
use Rattle.position.specs.Board.{entry, xs, os, x_all, o_all, Accepted}
use Rattle.position.specs.Step.{Good, clear_from, off_from, can_step, Legal, lifted, landed, stepped}
use Rattle.position.proofs.Boards.{apart-at, has-entry, xs-set-same, os-set-same, xs-set-other, os-set-other}

-- ---- no x from a point on

module _ (b : List ℤ) (lo : ℕ) where
  pub clear-yes : ((k : ℕ) → lo ≤ k → k < 25 → xs b k ≡ 0) → clear_from b lo ≡ true
  unfolding clear_from
  clear-yes h = all_yes _ (25 - lo) (λ k l. eq-eqb _ _ (h (lo + k) (omega arith) (omega arith)))

  pub clear-no : (k : ℕ) → lo ≤ k → k < 25 → 0 < xs b k → clear_from b lo ≡ false
  unfolding clear_from
  clear-no k l m h =
      let e : lo + (k - lo) ≡ k = omega arith in
      all-no (λ (j : ℕ). eqb (xs b (lo + j)) 0) (25 - lo) (k - lo) (omega arith) (rw e (ne_eqb (xs b k) 0 (λ q. omega arith)))

  pub clear_at : clear_from b lo ≡ true → (k : ℕ) → lo ≤ k → k < 25 → xs b k ≡ 0
  unfolding clear_from
  clear_at c k l m =
      let e : lo + (k - lo) ≡ k = omega arith in
      eqb-true (xs b k) 0 (rw e at (all-at (λ (j : ℕ). eqb (xs b (lo + j)) 0) (25 - lo) (k - lo) c (omega arith)))

pub off_from-exact : (p d : ℕ) → p ≡ d → off_from p d ≡ 7
unfolding off_from
off_from-exact p d e = rw (eq-eqb p d e)

pub off_from-over : (p d : ℕ) → p < d → off_from p d ≡ p + 1
unfolding off_from
off_from-over p d h = rw (ne_eqb p d (λ e. omega arith))

-- a checker that is borne off stands below the points that must be clear
pub off_from-above : (p d : ℕ) → p ≤ d → d ≤ 6 → p < off_from p d
off_from-above p d h k = go (ℕ_discrete p d)
  where
    go : Dec (p ≡ d) → p < off_from p d
    go (yes e) = omega (arith, off_from-exact p d e)
    go (no n) = omega (arith, off_from-over p d (omega arith))

-- those points begin with 7 at the latest
pub off_from-most : (p d : ℕ) → p ≤ d → d ≤ 6 → off_from p d ≤ 7
off_from-most p d h k = elim (ℕ_discrete p d) [
  | yes e ↦ omega (arith, off_from-exact p d e)
  | no n ↦ omega (arith, off_from-over p d (omega arith))
]

-- ---- the test and the record of facts agree

module _ (b : List ℤ) (p d : ℕ) where
  -- the three parts of the test
  abbrev pub has_test : Bool
  has_test = ltb 0 (xs b p)

  abbrev pub bar_test : Bool
  bar_test = cond (eqb p 25) (ltb 0 (xs b 25)) (eqb (xs b 25) 0)

  abbrev pub land_test : Bool
  land_test = cond (ltb d p) (leb (os b (p - d)) 1) (clear_from b (off_from p d))

  pub test-legal : can_step b p d ≡ true → Legal b p d
  unfolding can_step
  test-legal t =
      let front = and_left (has_test && bar_test) land_test t in
      let bar = and_right has_test bar_test front in
      let land = and_right (has_test && bar_test) land_test t in
      record {
        has = ltb-true 0 (xs b p) (and_left has_test bar_test front);
        bar = λ h. eqb-true (xs b 25) 0 (rw (ne_eqb p 25 (λ e. omega arith)) at bar);
        on = λ h. leb-true (os b (p - d)) 1 (rw (lt-ltb d p h) at land);
        off = λ h i l k. clear_at b (off_from p d) (rw (le-ltb d p h) at land) i l k;
      }

  pub legal-test : p ≤ 25 → Legal b p d → can_step b p d ≡ true
  unfolding can_step
  legal-test m l =
      and_both (has_test && bar_test) land_test
      (and_both has_test bar_test (lt-ltb 0 (xs b p) l.has) (bar (ℕ_discrete p 25))) (land (dec_lt d p))
    where
      bar : Dec (p ≡ 25) → bar_test ≡ true
      bar (yes e) = rw (eq-eqb p 25 e) (lt-ltb 0 (xs b 25) (rw e at l.has))
      bar (no n) = rw (ne_eqb p 25 n) (eq-eqb (xs b 25) 0 (l.bar (omega arith)))

      land : Dec (d < p) → land_test ≡ true
      land (yes h) = rw (lt-ltb d p h) (le-leb (os b (p - d)) 1 (l.on h))
      land (no n) =
          rw (le-ltb d p (omega arith)) (clear-yes b (off_from p d) (λ i g k. l.off (omega arith) i g k))

-- ---- the test, as the code makes it

module _ (b : List ℤ) (p d : ℕ) where
  pub can-none : xs b p ≡ 0 → can_step b p d ≡ false
  unfolding can_step
  can-none h = rw (le-ltb 0 (xs b p) (omega arith))

  pub can-bar : (p ≡ 25 → ⊥) → 0 < xs b 25 → can_step b p d ≡ false
  unfolding can_step
  can-bar n h = rw (ne_eqb p 25 n, ne_eqb (xs b 25) 0 (λ e. omega arith), and-false (ltb 0 (xs b p)))

  module _ (has : 0 < xs b p) (bar : bar_test b p d ≡ true) where
    pub can-land : d < p → can_step b p d ≡ leb (os b (p - d)) 1
    unfolding can_step
    can-land h = rw (lt-ltb 0 (xs b p) has, bar, lt-ltb d p h)

    pub can-off : p ≤ d → can_step b p d ≡ clear_from b (off_from p d)
    unfolding can_step
    can-off h = rw (lt-ltb 0 (xs b p) has, bar, le-ltb d p h)

  pub bar-from : p ≡ 25 → 0 < xs b p → bar_test b p d ≡ true
  bar-from e h = rw (eq-eqb p 25 e) (lt-ltb 0 (xs b 25) (rw e at h))

  pub bar-empty : (p ≡ 25 → ⊥) → xs b 25 ≡ 0 → bar_test b p d ≡ true
  bar-empty n e = rw (ne_eqb p 25 n) (eq-eqb (xs b 25) 0 e)

-- ---- what a step needs of a board

pub accepted-good : {n : ℕ} {b : List ℤ} → Accepted n b → Good b
accepted-good a = record { size = a.size; o-bar = a.o-bar }

pub from-within : (b : List ℤ) (p : ℕ) → Good b → 0 < xs b p → (0 < p) × (p ≤ 25)
from-within b p g h = (low (ℕ_discrete p 0), omega (arith, has-entry b p h, g.size))
  where
    low : Dec (p ≡ 0) → 0 < p
    low (yes e) = let z = ap (xs b) e in omega (arith, h, g.o-bar)
    low (no n) = omega arith

-- ---- the parts of a step

pub lifted-size : (b : List ℤ) (p : ℕ) → length (lifted b p) ≡ length b
unfolding lifted
lifted-size b p = length-set b p (pred_ℤ (entry b p))

-- one checker of x taken from p
module _ (b : List ℤ) (p : ℕ) (has : 0 < xs b p) where
  pub lifted-counts : (i : ℕ) → (xs (lifted b p) i + one p i ≡ xs b i) × (os (lifted b p) i ≡ os b i)
  unfolding lifted
  lifted-counts i = go (ℕ_discrete p i)
    where
      z : ℤ
      z = pred_ℤ (entry b p)

      go : Dec (p ≡ i) → (xs (set b p z) i + one p i ≡ xs b i) × (os (set b p z) i ≡ os b i)
      go (yes e) =
          let w : p < length b = has-entry b p has in
          rw (← e) (omega (arith, xs-set-same b p z w, os-set-same b p z w, one_same p p refl, pred-above (entry b p) has))
      go (no n) =
          let m : i ≢ p = λ e. n (sym e) in
          omega (arith, xs-set-other b p z i m, os-set-other b p z i m, one-other p i n)

-- one o more on o's bar
module _ (b : List ℤ) (g : Good b) where
  barred : (i : ℕ) → (xs (lifted b 0) i ≡ xs b i) × (os (lifted b 0) i ≡ os b i + one 0 i)
  unfolding lifted
  barred i = go (ℕ_discrete 0 i)
    where
      z : ℤ
      z = pred_ℤ (entry b 0)

      go : Dec (0 ≡ i) → (xs (set b 0 z) i ≡ xs b i) × (os (set b 0 z) i ≡ os b i + one 0 i)
      go (yes e) =
          let w : 0 < length b = omega (arith, g.size) in
          rw (← e) (omega (arith, xs-set-same b 0 z w, os-set-same b 0 z w, one_same 0 0 refl, pred-below (entry b 0) g.o-bar))
      go (no n) =
          let m : i ≢ 0 = λ e. n (sym e) in
          omega (arith, xs-set-other b 0 z i m, os-set-other b 0 z i m, one-other 0 i n)

-- one x on t, in place of a lone o and beside none
module _ (b : List ℤ) (t : ℕ) (w : t < length b) where
  replaced : os b t ≡ 1 → (i : ℕ) → (xs (set b t (pos 1)) i ≡ xs b i + one t i) × (os (set b t (pos 1)) i + one t i ≡ os b i)
  replaced h i = go (ℕ_discrete t i)
    where
      go : Dec (t ≡ i) → (xs (set b t (pos 1)) i ≡ xs b i + one t i) × (os (set b t (pos 1)) i + one t i ≡ os b i)
      go (yes e) =
          rw (← e) (omega (arith, xs-set-same b t (pos 1) w, os-set-same b t (pos 1) w, one_same t t refl, apart-at b t))
      go (no n) =
          let m : i ≢ t = λ e. n (sym e) in
          omega (arith, xs-set-other b t (pos 1) i m, os-set-other b t (pos 1) i m, one-other t i n)

  joined : os b t ≡ 0 → (i : ℕ) → (xs (set b t (suc_ℤ (entry b t))) i ≡ xs b i + one t i) × (os (set b t (suc_ℤ (entry b t))) i ≡ os b i)
  joined h i = go (ℕ_discrete t i)
    where
      z : ℤ
      z = suc_ℤ (entry b t)

      go : Dec (t ≡ i) → (xs (set b t z) i ≡ xs b i + one t i) × (os (set b t z) i ≡ os b i)
      go (yes e) =
          rw (← e) (omega (arith, xs-set-same b t z w, os-set-same b t z w, one_same t t refl, suc-above (entry b t) h))
      go (no n) =
          let m : i ≢ t = λ e. n (sym e) in
          omega (arith, xs-set-other b t z i m, os-set-other b t z i m, one-other t i n)

-- the board c is b with one x more on t, a lone o there sent to the bar
record Landed (b c : List ℤ) (t : ℕ) : Type 0 where
  size : length c ≡ 26
  x : (i : ℕ) → xs c i ≡ xs b i + one t i
  o : (i : ℕ) → 0 < i → os c i ≡ os b i - one t i
  bar : os c 0 ≡ os b 0 + os b t

landed-law : (b : List ℤ) (t : ℕ) → Good b → 0 < t → t < 26 → os b t ≤ 1 → Landed b (landed b t) t
unfolding landed
landed-law b t g h w f = go (ℕ_discrete (os b t) 1)
  where
    size : length b ≡ 26
    size = g.size

    v : t < length b
    v = omega (arith, size)

    other : one t 0 ≡ 0
    other = one-other t 0 (λ e. omega arith)

    c : List ℤ
    c = set b t (pos 1)

    long : length c ≡ 26
    long = length-set b t (pos 1) ∙ size

    go : Dec (os b t ≡ 1) → Landed b (cond (eqb (os b t) 1) (lifted c 0) (set b t (suc_ℤ (entry b t)))) t
    go (yes y) =
        let k : Good c = record { size = long; o-bar = omega (arith, replaced b t v y 0, other, g.o-bar) } in
        rw (eq-eqb (os b t) 1 y) (record {
          size = lifted-size c 0 ∙ long;
          x = λ i. omega (arith, barred c k i, replaced b t v y i);
          o = λ i j. omega (arith, barred c k i, replaced b t v y i, one-other 0 i (λ e. omega arith));
          bar = omega (arith, barred c k 0, replaced b t v y 0, one_same 0 0 refl, other);
        })
    go (no n) =
        let y : os b t ≡ 0 = omega (arith, n) in
        rw (ne_eqb (os b t) 1 n) (record {
          size = length-set b t (suc_ℤ (entry b t)) ∙ size;
          x = λ i. omega (arith, joined b t v y i);
          o = λ i j. elim (ℕ_discrete t i) [
            | yes e ↦ let z = ap (os b) e in omega (arith, joined b t v y i, one_same t i e)
            | no m ↦ omega (arith, joined b t v y i, one-other t i m)
          ];
          bar = omega (arith, joined b t v y 0);
        })

-- ---- the step

-- the point that a step from p by d reaches, as 1 there and 0 elsewhere; all 0 where the checker is off
unfoldable pub reached : ℕ → ℕ → ℕ → ℕ
reached p d i = cond (ltb d p) (one (p - d) i) 0

pub reached-on : (p d i : ℕ) → d < p → reached p d i ≡ one (p - d) i
unfolding reached
reached-on p d i h = rw (lt-ltb d p h)

pub reached-off : (p d i : ℕ) → p ≤ d → reached p d i ≡ 0
unfolding reached
reached-off p d i h = rw (le-ltb d p h)

-- the lone o that a step from p by d sends to the bar: 1 or 0
unfoldable pub hits : List ℤ → ℕ → ℕ → ℕ
hits b p d = cond (ltb d p) (os b (p - d)) 0

pub hits-on : (b : List ℤ) (p d : ℕ) → d < p → hits b p d ≡ os b (p - d)
unfolding hits
hits-on b p d h = rw (lt-ltb d p h)

pub hits-off : (b : List ℤ) (p d : ℕ) → p ≤ d → hits b p d ≡ 0
unfolding hits
hits-off b p d h = rw (le-ltb d p h)

-- the linear step law: each entry of the board c after a step from p by d on b
pub record AfterStep (b c : List ℤ) (p d : ℕ) : Type 0 where
  pub size : length c ≡ 26
  pub x : (i : ℕ) → xs c i + one p i ≡ xs b i + reached p d i
  pub o : (i : ℕ) → 0 < i → os c i ≡ os b i - reached p d i
  pub bar : os c 0 ≡ os b 0 + hits b p d

pub step-law : (b : List ℤ) (p d : ℕ) → Good b → Legal b p d → AfterStep b (stepped b p d) p d
unfolding stepped
step-law b p d g l = go (dec_lt d p)
  where
    c : List ℤ
    c = lifted b p

    size : length c ≡ 26
    size = lifted-size b p ∙ g.size

    left : (i : ℕ) → (xs c i + one p i ≡ xs b i) × (os c i ≡ os b i)
    left i = lifted-counts b p l.has i

    within : (0 < p) × (p ≤ 25)
    within = from-within b p g l.has

    go : Dec (d < p) → AfterStep b (cond (ltb d p) (landed c (p - d)) c) p d
    go (yes h) =
        let k : Good c = record { size = size; o-bar = omega (arith, left 0, g.o-bar) } in
        let w : Landed c (landed c (p - d)) (p - d) =
        landed-law c (p - d) k (omega arith) (omega (arith, within)) (omega (arith, left (p - d), l.on h)) in
        rw (lt-ltb d p h) (record {
          size = w.size;
          x = λ i. omega (arith, left i, w.x i, reached-on p d i h);
          o = λ i j. omega (arith, left i, w.o i j, reached-on p d i h);
          bar = omega (arith, left 0, left (p - d), w.bar, hits-on b p d h);
        })
    go (no n) =
        let h : p ≤ d = omega arith in
        rw (le-ltb d p h) (record {
          size = size;
          x = λ i. omega (arith, left i, reached-off p d i h);
          o = λ i j. omega (arith, left i, reached-off p d i h);
          bar = omega (arith, left 0, hits-off b p d h);
        })

pub reached-cases : (p d i : ℕ) → (reached p d i ≡ 0) ⊎ ((d < p) × (i ≡ p - d))
reached-cases p d i = elim (dec_lt d p) [
  | yes h ↦ elim (ℕ_discrete (p - d) i) [ yes e ↦ inr (h, sym e) | no n ↦ inl (reached-on p d i h ∙ one-other (p - d) i n) ]
  | no n ↦ inl (reached-off p d i (omega arith))
]

pub reached-above : (p d i : ℕ) → 0 < d → p ≤ i → reached p d i ≡ 0
reached-above p d i h k = elim (reached-cases p d i) [ inl e ↦ e | inr q ↦ omega arith ]

pub reached-zero : (p d : ℕ) → reached p d 0 ≡ 0
reached-zero p d = elim (reached-cases p d 0) [ inl e ↦ e | inr q ↦ omega arith ]

pub step-good : (b : List ℤ) (p d : ℕ) → Good b → Legal b p d → Good (stepped b p d)
step-good b p d g l =
    let w = step-law b p d g l in
    record { size = w.size; o-bar = omega (arith, w.x 0, reached-zero p d, g.o-bar) }

-- ---- a legal step keeps a board accepted

module _ (b : List ℤ) (p d : ℕ) (g : Good b) (l : Legal b p d) where
  after : AfterStep b (stepped b p d) p d
  after = step-law b p d g l

  within : (0 < p) × (p ≤ 25)
  within = from-within b p g l.has

  -- x loses a checker exactly where it is borne off
  pub step-x_all : x_all (stepped b p d) + 1 ≡ x_all b + sum_to (reached p d) 26
  step-x_all =
      omega (
        arith,
        sum-plus (xs (stepped b p d)) (one p) 26,
        sum-plus (xs b) (reached p d) 26,
        sum_one p 26 (omega (arith, within)),
        sum_same (λ i. xs (stepped b p d) i + one p i) (λ i. xs b i + reached p d i) 26 (λ i _. after.x i),
      )

  pub reached-sum : sum_to (reached p d) 26 ≤ 1
  reached-sum = go (dec_lt d p)
    where
      go : Dec (d < p) → sum_to (reached p d) 26 ≤ 1
      go (yes h) =
          omega (arith, sum_same (reached p d) (one (p - d)) 26 (λ i _. reached-on p d i h), sum_one (p - d) 26 (omega (arith, within)))
      go (no n) = omega (arith, sum-zero (reached p d) 26 (λ i _. reached-off p d i (omega arith)))

  -- o keeps its checkers: one that is hit stands on the bar
  pub step-o_all : o_all (stepped b p d) ≡ o_all b
  step-o_all = go (dec_lt d p)
    where
      c : List ℤ
      c = stepped b p d

      kept : hits b p d ≡ 0 → (i : ℕ) → os c i ≡ os b i
      kept z i = elim (ℕ_discrete i 0) [
        | yes e ↦ rw e (omega (arith, after.bar))
        | no n ↦ elim (reached-cases p d i) [
          | inl r ↦ omega (arith, after.o i (omega arith))
          | inr q ↦ let s = ap (os b) q.1 in omega (arith, after.o i (omega arith), hits-on b p d q.0)
        ]
      ]

      moved : (h : d < p) → os b (p - d) ≡ 1 → (i : ℕ) → os c i + one (p - d) i ≡ os b i + one 0 i
      moved h e i = elim (ℕ_discrete i 0) [
        | yes z ↦ rw z (omega (arith, after.bar, hits-on b p d h, one_same 0 0 refl, one-other (p - d) 0 (λ q. omega arith)))
        | no n ↦ elim (ℕ_discrete (p - d) i) [
          | yes q ↦ let s = ap (os b) q in omega (arith, after.o i (omega arith), reached-on p d i h, one_same (p - d) i q, one-other 0 i (λ r. omega arith))
          | no m ↦ omega (arith, after.o i (omega arith), reached-on p d i h, one-other (p - d) i m, one-other 0 i (λ r. omega arith))
        ]
      ]

      go : Dec (d < p) → o_all c ≡ o_all b
      go (yes h) = elim (ℕ_discrete (os b (p - d)) 1) [
        | yes e ↦
            omega (
              arith,
              sum-plus (os c) (one (p - d)) 26,
              sum-plus (os b) (one 0) 26,
              sum_one (p - d) 26 (omega (arith, within)),
              sum_one 0 26 (omega arith),
              sum_same (λ i. os c i + one (p - d) i) (λ i. os b i + one 0 i) 26 (λ i _. moved h e i),
            )
        | no n ↦ sum_same (os c) (os b) 26 (λ i _. kept (omega (arith, hits-on b p d h, l.on h)) i)
      ]
      go (no n) = sum_same (os c) (os b) 26 (λ i _. kept (hits-off b p d (omega arith)) i)

pub step-accepted : (n : ℕ) (b : List ℤ) (p d : ℕ) → Accepted n b → Legal b p d → Accepted n (stepped b p d)
step-accepted n b p d a l =
    let g = accepted-good a in
    let w = step-law b p d g l in
    let m = a.x-most in
    record {
      size = w.size;
      x-most = omega (arith, step-x_all b p d g l, reached-sum b p d g l);
      o-most = omega (arith, step-o_all b p d g l, a.o-most);
      x-bar = omega (arith, w.o 25 (omega arith), a.x-bar);
      o-bar = (step-good b p d g l).o-bar;
    }
