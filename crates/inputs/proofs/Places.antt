-- Which side's point each place belongs to; and one input asked by its place is the value whose bits filling leaves there.
use mathlib.Core.Path.{◌≡◌, refl, sym, ap, ap₂, ◌∙◌}
use mathlib.Core.List.{List}
use Prim.Native.Nat.{ℕ, ◌+◌, ◌-◌, ◌*◌, ◌/◌, ◌%◌, ◌≤◌, ◌<◌}
use native.Mathlib.Omega.{arith}
use lib.Ieee.{Float, binary32, to_bits}
use lib.IntN.{ℤ}
use lib.ListN.{length, get_or}
use Rattle.position.specs.Board.{xs, os, refusal_of}
use Rattle.inputs.specs.Inputs.{bits, four, inputs_of, contact_counts, race_counts, contact_inputs, race_inputs}
use Rattle.inputs.specs.Answers.{contact_size, race_size, given, fill_lent, place_answer, contact_lent, contact_input, race_lent, race_input}
use Rattle.inputs.proofs.Floats.{mapped_at, bits_is}
use Rattle.inputs.proofs.Fours.{length-contact, length-race, length-inputs, input-four, contact-bar, contact-x, contact-o, race-x, race-o}
use Rattle.inputs.proofs.Answers.{fill_done, place-value}

same : (k size : ℕ) (inputs out : List ℕ) (p : ℕ) (v : Float) → k ≡ 0 → length inputs ≡ size → length out ≡ size → p < size
    → place_answer k size inputs p ≡ given v → get_or (fill_lent k size inputs out) p 0 ≡ to_bits binary32 v
same k size inputs out p v e l m h g =
    sym (ap (λ (x : List ℕ). get_or x p 0) (fill_done k size inputs out e m).1)
    ∙ mapped_at bits inputs p 0 (omega arith)
    ∙ sym (bits_is (get_or inputs p 0))
    ∙ ap (to_bits binary32) (given-same (place-value k size inputs p e h ∙ g))
  where
    given-same : {x y : Float} → given x ≡ given y → x ≡ y
    given-same q = cc

pub contact-all : (n : ℕ) (b : List ℤ) → length (contact_inputs n b) ≡ contact_size
unfolding contact_inputs
contact-all n b = omega (arith, length-inputs n b (contact_counts b), length-contact b)

pub race-all : (n : ℕ) (b : List ℤ) → length (race_inputs n b) ≡ race_size
unfolding race_inputs
race-all n b = omega (arith, length-inputs n b (race_counts b), length-race b)

module _ (n : ℕ) (b : List ℤ) (out : List ℕ) (place : ℕ) (v : Float) (e : refusal_of n b ≡ 0) where
  pub contact-input-placed : length out ≡ contact_size → place < contact_size → contact_input n b place ≡ given v
      → get_or (contact_lent n b out) place 0 ≡ to_bits binary32 v
  unfolding contact_input contact_lent
  contact-input-placed m h g = same (refusal_of n b) contact_size (contact_inputs n b) out place v e (contact-all n b) m h g

  pub race-input-placed : length out ≡ race_size → place < race_size → race_input n b place ≡ given v
      → get_or (race_lent n b out) place 0 ≡ to_bits binary32 v
  unfolding race_input race_lent
  race-input-placed m h g = same (refusal_of n b) race_size (race_inputs n b) out place v e (race-all n b) m h g

-- ---- value j of a point by its place

at : (n : ℕ) (b : List ℤ) (counts : List ℕ) (k j place : ℕ) → j < 4 → k < length counts → 2 + 4 * k + j ≡ place
    → get_or (inputs_of n b counts) place 0 ≡ get_or (four (get_or counts k 0)) j 0
at n b counts k j place h l e =
    let q : (place - 2) / 4 ≡ k = omega arith in
    let r : (place - 2) % 4 ≡ j = omega arith in
    input-four n b counts place (omega arith) (omega arith)
    ∙ ap₂ (λ (x y : ℕ). get_or (four (get_or counts x 0)) y 0) q r

module _ (n : ℕ) (b : List ℤ) (j : ℕ) (h : j < 4) where
  pub contact-x-bar-at : get_or (contact_inputs n b) (2 + j) 0 ≡ get_or (four (xs b 25)) j 0
  unfolding contact_inputs
  contact-x-bar-at =
      at n b (contact_counts b) 0 j (2 + j) h (omega (arith, length-contact b)) (omega arith)
      ∙ ap (λ (m : ℕ). get_or (four m) j 0) (contact-bar b 0 refl)

  pub contact-x-at : (p : ℕ) → 1 ≤ p → p ≤ 24 → get_or (contact_inputs n b) (2 + 4 * p + j) 0 ≡ get_or (four (xs b p)) j 0
  unfolding contact_inputs
  contact-x-at p l m =
      at n b (contact_counts b) p j (2 + 4 * p + j) h (omega (arith, length-contact b)) (omega arith)
      ∙ ap (λ (m : ℕ). get_or (four m) j 0) (contact-x b p (λ z. omega arith) (omega arith))

  pub contact-o-at : (p : ℕ) → p ≤ 24 → get_or (contact_inputs n b) (102 + 4 * p + j) 0 ≡ get_or (four (os b p)) j 0
  unfolding contact_inputs
  contact-o-at p m =
      let e : p + 25 - 25 ≡ p = omega arith in
      at n b (contact_counts b) (p + 25) j (102 + 4 * p + j) h (omega (arith, length-contact b)) (omega arith)
      ∙ ap (λ (m : ℕ). get_or (four m) j 0) (contact-o b (p + 25) (omega arith) (omega arith) ∙ ap (os b) e)

  pub race-x-at : (p : ℕ) → 1 ≤ p → p ≤ 23 → get_or (race_inputs n b) (2 + 4 * (p - 1) + j) 0 ≡ get_or (four (xs b p)) j 0
  unfolding race_inputs
  race-x-at p l m =
      let e : p - 1 + 1 ≡ p = omega arith in
      at n b (race_counts b) (p - 1) j (2 + 4 * (p - 1) + j) h (omega (arith, length-race b)) (omega arith)
      ∙ ap (λ (m : ℕ). get_or (four m) j 0) (race-x b (p - 1) (omega arith) ∙ ap (xs b) e)

  pub race-o-at : (p : ℕ) → 2 ≤ p → p ≤ 24 → get_or (race_inputs n b) (94 + 4 * (p - 2) + j) 0 ≡ get_or (four (os b p)) j 0
  unfolding race_inputs
  race-o-at p l m =
      let e : p + 21 - 21 ≡ p = omega arith in
      at n b (race_counts b) (p + 21) j (94 + 4 * (p - 2) + j) h (omega (arith, length-race b)) (omega arith)
      ∙ ap (λ (m : ℕ). get_or (four m) j 0) (race-o b (p + 21) (omega arith) (omega arith) ∙ ap (os b) e)
