-- Every input of an accepted board is a whole number of at most fifteen, and its f32 is that number exactly.
-- Assumes nothing.
use mathlib.Core.Path.{◌≡◌, refl, subst}
use mathlib.Core.Logic.{◌⊎◌, inl, inr}
use mathlib.Core.Bool as truth
use mathlib.Core.Bool.{Bool, true, false, cond}
use mathlib.Core.List.{List}
use Prim.Native.Nat.{ℕ, zero, suc, ◌+◌, ◌-◌, ◌*◌, ◌/◌, ◌%◌, ◌<◌, ◌≤◌}
use native.Mathlib.Omega.{arith}
use lib.Dec.{T, eqb, leb}
use lib.Ieee.{is_nan, to_unsigned}
use lib.IntN.{ℤ}
use lib.ListN.{length, get_or}
use Rattle.ints.proofs.Tests.{lt-or-le}
use Rattle.position.proofs.Boards.{at-most-all, unrefused-most}
use Rattle.position.specs.Board.{checkers, xs, os, Accepted, refusal_of}
use Rattle.inputs.specs.Inputs.{whole, four, inputs_of, contact_counts, race_counts, contact_inputs, race_inputs}
use Rattle.inputs.specs.Answers.{contact_size, race_size, InputAnswer, is_number, place_answer, contact_input, race_input}
use Rattle.inputs.proofs.Floats.{whole-exact, whole-number}
use Rattle.inputs.proofs.Own.{few}
use Rattle.inputs.proofs.Answers.{place-refused, place-14, place-value}
use Rattle.inputs.proofs.Fours.{length-contact, length-race, input-four, contact-bar, contact-x, contact-o, race-x, race-o}

-- the values of a count are at most one, or less than it
at_most_one : (q : Bool) → cond q 1 0 ≤ 1
at_most_one true = omega arith
at_most_one false = omega arith

pub four-few : (n j : ℕ) → n ≤ checkers → get_or (four n) j 0 ≤ checkers
four-few n zero h = omega (arith, at_most_one (eqb n 1))
four-few n (suc zero) h = omega (arith, at_most_one (eqb n 2))
four-few n (suc (suc zero)) h = omega (arith, at_most_one (leb 3 n))
four-few n (suc (suc (suc zero))) h = omega arith
four-few n (suc (suc (suc (suc j)))) h = omega arith

inputs-few : (b : List ℤ) (counts : List ℕ) → ((k : ℕ) → k < length counts → get_or counts k 0 ≤ checkers)
    → (p : ℕ) → p < 2 + 4 * length counts → get_or (inputs_of checkers b counts) p 0 ≤ checkers
unfolding inputs_of
inputs-few b counts m zero h = omega arith
inputs-few b counts m (suc zero) h = omega arith
inputs-few b counts m (suc (suc p)) h =
    let k = (suc (suc p) - 2) / 4 in
    let f = four-few (get_or counts k 0) ((suc (suc p) - 2) % 4) (m k (omega arith)) in
    omega (arith, input-four checkers b counts (suc (suc p)) (omega arith) h)

-- an input is at most fifteen where each entry holds at most as many
module _ (b : List ℤ) (few : (p : ℕ) → p < 26 → (xs b p ≤ checkers) × (os b p ≤ checkers)) where
  contact-few : (k : ℕ) → k < 50 → get_or (contact_counts b) k 0 ≤ checkers
  contact-few zero h = omega (arith, contact-bar b zero refl, (few 25 (omega arith)).0)
  contact-few (suc k) h = go (lt-or-le (suc k) 25)
    where
      go : (suc k < 25) ⊎ (25 ≤ suc k) → get_or (contact_counts b) (suc k) 0 ≤ checkers
      go (inl g) = omega (arith, contact-x b (suc k) (λ z. omega arith) g, (few (suc k) (omega arith)).0)
      go (inr g) = omega (arith, contact-o b (suc k) g h, (few (suc k - 25) (omega arith)).1)

  race-few : (k : ℕ) → k < 46 → get_or (race_counts b) k 0 ≤ checkers
  race-few k h = go (lt-or-le k 23)
    where
      go : (k < 23) ⊎ (23 ≤ k) → get_or (race_counts b) k 0 ≤ checkers
      go (inl g) = omega (arith, race-x b k g, (few (k + 1) (omega arith)).0)
      go (inr g) = omega (arith, race-o b k g h, (few (k - 21) (omega arith)).1)

  contact-most : (p : ℕ) → p < contact_size → get_or (contact_inputs checkers b) p 0 ≤ checkers
  unfolding contact_inputs
  contact-most p h = let l = length-contact b in inputs-few b (contact_counts b) (λ k g. contact-few k (omega arith)) p (omega arith)

  race-most : (p : ℕ) → p < race_size → get_or (race_inputs checkers b) p 0 ≤ checkers
  unfolding race_inputs
  race-most p h = let l = length-race b in inputs-few b (race_counts b) (λ k g. race-few k (omega arith)) p (omega arith)

-- "exactly": the f32 of an input, read back, is the input
module _ {b : List ℤ} (a : Accepted checkers b) where
  pub contact-exact : (p : ℕ) → p < contact_size → to_unsigned 8 (whole (get_or (contact_inputs checkers b) p 0)) ≡ get_or (contact_inputs checkers b) p 0
  contact-exact p h = whole-exact (get_or (contact_inputs checkers b) p 0) (omega (arith, contact-most b (few a) p h))

  pub race-exact : (p : ℕ) → p < race_size → to_unsigned 8 (whole (get_or (race_inputs checkers b) p 0)) ≡ get_or (race_inputs checkers b) p 0
  race-exact p h = whole-exact (get_or (race_inputs checkers b) p 0) (omega (arith, race-most b (few a) p h))

-- one input that is answered is a number
place-number : (k size : ℕ) (inputs : List ℕ) (p : ℕ) → (k ≡ 0 → p < size → T (truth.not (is_nan (whole (get_or inputs p 0)))))
    → T (is_number (place_answer k size inputs p))
place-number k size inputs p m = go (lt-or-le 0 k) (lt-or-le p size)
  where
    go : (0 < k) ⊎ (k ≤ 0) → (p < size) ⊎ (size ≤ p) → T (is_number (place_answer k size inputs p))
    go (inl n) q = subst (λ (a : InputAnswer). T (is_number a)) (place-refused k size inputs p (λ z. omega arith)) tt
    go (inr e) (inl h) = subst (λ (a : InputAnswer). T (is_number a)) (place-value k size inputs p (omega arith) h) (m (omega arith) h)
    go (inr e) (inr h) = subst (λ (a : InputAnswer). T (is_number a)) (place-14 k size inputs p (omega arith) h) tt

module _ (b : List ℤ) (place : ℕ) where
  unrefused-few : refusal_of checkers b ≡ 0 → (p : ℕ) → p < 26 → (xs b p ≤ checkers) × (os b p ≤ checkers)
  unrefused-few e p h =
      let m = at-most-all b p h in
      let n = unrefused-most checkers b e in
      (omega arith, omega arith)

  pub contact-input-number : T (is_number (contact_input checkers b place))
  unfolding contact_input
  contact-input-number =
      place-number (refusal_of checkers b) contact_size (contact_inputs checkers b) place
      (λ e h. whole-number (get_or (contact_inputs checkers b) place 0) (omega (arith, contact-most b (unrefused-few e) place h)))

  pub race-input-number : T (is_number (race_input checkers b place))
  unfolding race_input
  race-input-number =
      place-number (refusal_of checkers b) race_size (race_inputs checkers b) place
      (λ e h. whole-number (get_or (race_inputs checkers b) place 0) (omega (arith, race-most b (unrefused-few e) place h)))
