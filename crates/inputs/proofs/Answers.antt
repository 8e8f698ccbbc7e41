-- What filling and one input answer, by the tests that led there. Assumes nothing.
use mathlib.Core.Path.{◌≡◌, refl, ap, ◌∙◌}
use mathlib.Core.List.{List, map}
use Prim.Native.Nat.{ℕ, ◌<◌, ◌≤◌}
use native.Mathlib.Omega.{arith}
use borrow.Author.Tests.{eq-eqb, ne_eqb, lt-ltb, le-ltb}
use lib.ListN.{length, get_or}
use Rattle.ints.specs.Answer.{value, refused}
use Rattle.ints.specs.Refusals.{number}
use Rattle.ints.specs.declared.refusal.Refusal.{Refusal}
use Rattle.ints.proofs.Refusals.{number-pos}
use Rattle.inputs.specs.Inputs.{whole, bits}
use Rattle.inputs.specs.Answers.{given, not, fill_answer, fill_lent, place_answer}

module _ (k size : ℕ) (inputs : List ℕ) (l : List ℕ) where
  pub fill-board : (why : Refusal) → number why ≡ k → (refused (number why) 0 ≡ fill_answer k size (length l)) × (l ≡ fill_lent k size inputs l)
  unfolding fill_answer fill_lent
  fill-board why e = rw (ne_eqb k 0 (λ z. omega (arith, number-pos why))) (ap (λ (n : ℕ). refused n 0) e, refl)

  module _ (e : k ≡ 0) where
    pub fill-13 : (length l ≡ size → ⊥) → (refused 13 0 ≡ fill_answer k size (length l)) × (l ≡ fill_lent k size inputs l)
    unfolding fill_answer fill_lent
    fill-13 n = rw (eq-eqb k 0 e, ne_eqb (length l) size n) (refl, refl)

    pub fill_done : length l ≡ size → (value 0 ≡ fill_answer k size (length l)) × (map bits inputs ≡ fill_lent k size inputs l)
    unfolding fill_answer fill_lent
    fill_done n = rw (eq-eqb k 0 e, eq-eqb (length l) size n) (refl, refl)

module _ (k size : ℕ) (inputs : List ℕ) (p : ℕ) where
  pub place-refused : (k ≡ 0 → ⊥) → not k ≡ place_answer k size inputs p
  unfolding place_answer
  place-refused n = rw (ne_eqb k 0 n)

  pub place-board : (why : Refusal) → number why ≡ k → not (number why) ≡ place_answer k size inputs p
  place-board why e = ap not e ∙ place-refused (λ z. omega (arith, number-pos why))

  module _ (e : k ≡ 0) where
    pub place-14 : size ≤ p → not 14 ≡ place_answer k size inputs p
    unfolding place_answer
    place-14 h = rw (eq-eqb k 0 e, le-ltb p size h)

    pub place-value : p < size → given (whole (get_or inputs p 0)) ≡ place_answer k size inputs p
    unfolding place_answer
    place-value h = rw (eq-eqb k 0 e, lt-ltb p size h)
