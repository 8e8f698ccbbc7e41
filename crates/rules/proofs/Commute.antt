-- Two steps may be made in the other order if the second starts at or above the origin of the first: each is still legal, and they lead to the same board.
-- Assumes nothing.
use mathlib.Core.Path.{◌≡◌, refl, sym, ap, ◌∙◌}
use mathlib.Core.Logic.{inl, inr}
use mathlib.Core.Bool.{true}
use mathlib.Core.List.{List}
use Prim.Native.Nat.{ℕ, ◌+◌, ◌-◌, ◌≤◌, ◌<◌}
use native.Mathlib.Omega.{arith}
use native.Mathlib.Decide.{ℕ_discrete, dec_lt}
use lib.IntN.{ℤ}
use Rattle.ints.proofs.Sums.{one_same, one-other}
use Rattle.position.specs.Board.{xs, os}
use Rattle.position.specs.Step.{Good, can_step, Legal, stepped}
use Rattle.position.proofs.Boards.{same-board}
use Rattle.position.proofs.Steps.{test-legal, legal-test, AfterStep, step-law, step-good, from-within, off_from-above, reached, reached-on, reached-off, reached-cases, reached-above, hits, hits-on, hits-off}
use Rattle.dice.specs.Dice.{Die}

-- both sides have as many checkers at i
abbrev SameAt : List ℤ → List ℤ → ℕ → Type 0
SameAt b c i = (xs b i ≡ xs c i) × (os b i ≡ os c i)

-- what a step hits after another: a lone o that the other did not
hits_then : {b c : List ℤ} {p d : ℕ} → AfterStep b c p d → (q e : ℕ) → e < q → hits c q e ≡ os b (q - e) - reached p d (q - e)
hits_then {c = c} w q e h = hits-on c q e h ∙ w.o (q - e) (omega arith)

module _ (b : List ℤ) (p d q e : ℕ) (g : Good b) (dd : Die d) (de : Die e) (le : p ≤ q) (l : Legal b p d) (m : Legal (stepped b p d) q e) where
  first : AfterStep b (stepped b p d) p d
  first = step-law b p d g l

  pub swap-first : Legal b q e
  swap-first = record {
    has = omega (arith, first.x q, reached-above p d q dd.low le, m.has);
    bar = λ h. l.bar (omega arith);
    on = λ h. elim (reached-cases p d (q - e)) [
      | inl z ↦ omega (arith, first.o (q - e) (omega arith), m.on h)
      | inr k ↦ rw k.1 (l.on k.0)
    ];
    off = λ h i k n. omega (arith, first.x i, m.off h i k n, one-other p i (λ z. omega (arith, off_from-above q e h de.high)));
  }

  other : AfterStep b (stepped b q e) q e
  other = step-law b q e g swap-first

  top : q ≤ 25
  top = (from-within b q g swap-first.has).1

  pub swap-second : Legal (stepped b q e) p d
  swap-second = record {
    has = elim (ℕ_discrete q p) [
      | yes z ↦
          omega (arith, other.x p, one_same q p z, first.x p, one_same p p refl, reached-above p d p dd.low (omega arith), rw z at m.has)
      | no n ↦ omega (arith, other.x p, one-other q p n, l.has)
    ];
    bar = λ h. omega (arith, l.bar h, other.x 25, reached-above q e 25 de.low top);
    on = λ h. omega (arith, other.o (p - d) (omega arith), l.on h);
    off = λ h i k n. elim (reached-cases q e i) [
      | inl z ↦ omega (arith, other.x i, l.off h i k n)
      | inr z ↦ elim (ℕ_discrete q 25) [
        | yes y ↦ omega (arith, l.bar (omega (arith, dd.high)), rw y at swap-first.has)
        | no y ↦ omega (arith, swap-first.has, l.off h q (omega arith) (omega (arith, top)))
      ]
    ];
  }

  first_then : AfterStep (stepped b p d) (stepped (stepped b p d) q e) q e
  first_then = step-law (stepped b p d) q e (step-good b p d g l) m

  other-then : AfterStep (stepped b q e) (stepped (stepped b q e) p d) p d
  other-then = step-law (stepped b q e) p d (step-good b q e g swap-first) swap-second

  -- both orders send as many of o's checkers to the bar: where they land on one point, whoever comes first hits
  swap-hits : hits b p d + hits (stepped b p d) q e ≡ hits b q e + hits (stepped b q e) p d
  swap-hits = go (dec_lt d p) (dec_lt e q)
    where
      go : Dec (d < p) → Dec (e < q) → hits b p d + hits (stepped b p d) q e ≡ hits b q e + hits (stepped b q e) p d
      go (yes h) (yes k) =
          let s = hits-on b p d h in
          let t = hits-on b q e k in
          let u = hits_then first q e k in
          let v = hits_then other p d h in
          let w = reached-on p d (q - e) h in
          let x = reached-on q e (p - d) k in
          elim (ℕ_discrete (p - d) (q - e)) [
            | yes z ↦ omega (arith, one_same (p - d) (q - e) z, one_same (q - e) (p - d) (sym z), ap (os b) z)
            | no n ↦ omega (arith, one-other (p - d) (q - e) n, one-other (q - e) (p - d) (λ z. n (sym z)))
          ]
      go (yes h) (no k) =
          let off : q ≤ e = omega arith in
          omega (arith, hits-on b p d h, hits-off b q e off, hits-off (stepped b p d) q e off, hits_then other p d h, reached-off q e (p - d) off)
      go (no h) (yes k) =
          let off : p ≤ d = omega arith in
          omega (arith, hits-off b p d off, hits-on b q e k, hits_then first q e k, hits-off (stepped b q e) p d off, reached-off p d (q - e) off)
      go (no h) (no k) =
          let off : p ≤ d = omega arith in
          let out : q ≤ e = omega arith in
          omega (arith, hits-off b p d off, hits-off b q e out, hits-off (stepped b p d) q e out, hits-off (stepped b q e) p d off)

  pub swap-same : stepped (stepped b p d) q e ≡ stepped (stepped b q e) p d
  swap-same =
      same-board (stepped (stepped b p d) q e) (stepped (stepped b q e) p d) (first_then.size ∙ sym other-then.size)
      (λ i. go i (ℕ_discrete 0 i))
    where
      go : (i : ℕ) → Dec (0 ≡ i) → SameAt (stepped (stepped b p d) q e) (stepped (stepped b q e) p d) i
      go i (yes z) =
          rw (← z)
          (omega (arith, first.x 0, other.x 0, first_then.x 0, other-then.x 0, first.bar, other.bar, first_then.bar, other-then.bar, swap-hits))
      go i (no n) =
          omega (
            arith,
            first.x i,
            other.x i,
            first_then.x i,
            other-then.x i,
            first.o i (omega arith),
            other.o i (omega arith),
            first_then.o i (omega arith),
            other-then.o i (omega arith),
          )

-- ---- the same of the test for a step

-- a step from p by d and one from q by e, made in the other order
pub record Swapped (b : List ℤ) (p d q e : ℕ) : Type 0 where
  pub first : can_step b q e ≡ true
  pub second : can_step (stepped b q e) p d ≡ true
  pub same : stepped (stepped b p d) q e ≡ stepped (stepped b q e) p d

pub swap : (b : List ℤ) (p d q e : ℕ) → Good b → Die d → Die e → p ≤ q → can_step b p d ≡ true → can_step (stepped b p d) q e ≡ true → Swapped b p d q e
swap b p d q e g dd de le c k =
    let l = test-legal b p d c in
    let m = test-legal (stepped b p d) q e k in
    let f = swap-first b p d q e g dd de le l m in
    record {
      first = legal-test b q e (from-within b q g f.has).1 f;
      second = legal-test (stepped b q e) p d (from-within b p g l.has).1 (swap-second b p d q e g dd de le l m);
      same = swap-same b p d q e g dd de le l m;
    }
