-- Values by place: place k of the fours is value k % 4 of count k / 4, and which count that is, for each net.
-- Assumes nothing.
use mathlib.Core.Path.{◌≡◌, refl, sym, ap, ◌∙◌}
use mathlib.Core.Logic.{◌⊎◌, inl, inr}
use mathlib.Core.List.{List, [], ◌∷◌, ◌++◌}
use Prim.Native.Nat.{ℕ, suc, ◌+◌, ◌-◌, ◌*◌, ◌/◌, ◌%◌, ◌<◌, ◌≤◌}
use native.Mathlib.Omega.{arith}
use lib.IntN.{ℤ}
use lib.ListN.{length, get_or, get_or-append}
use lib.Seq.{get_or-append-add}
use Rattle.ints.specs.Sums.{values}
use Rattle.ints.proofs.Sums.{length-values, get_or-values}
use Rattle.ints.proofs.Tests.{lt-or-le}
use Rattle.position.specs.Board.{xs, os, x_all, o_all}
use Rattle.inputs.specs.Inputs.{four, fours, contact_counts, race_counts, inputs_of}

pub length-fours : (ns : List ℕ) → length (fours ns) ≡ 4 * length ns
unfolding fours
length-fours [] = refl
length-fours (n ∷ ns) = let e = length-fours ns in omega arith

get_or-fours : (ns : List ℕ) (k : ℕ) → k < 4 * length ns → get_or (fours ns) k 0 ≡ get_or (four (get_or ns (k / 4) 0)) (k % 4) 0
unfolding fours
get_or-fours [] k h = absurd (omega arith)
get_or-fours (n ∷ ns) k h = go (λ g. get_or-fours ns (k - 4) (omega arith)) (lt-or-le k 4)
  where
    go : (4 ≤ k → get_or (fours ns) (k - 4) 0 ≡ get_or (four (get_or ns ((k - 4) / 4) 0)) ((k - 4) % 4) 0) → (k < 4) ⊎ (4 ≤ k)
        → get_or (four n ++ fours ns) k 0 ≡ get_or (four (get_or (n ∷ ns) (k / 4) 0)) (k % 4) 0
    go ih (inl g) =
        let q : k / 4 ≡ 0 = omega arith in
        let r : k % 4 ≡ k = omega arith in
        rw (q, r) (get_or-append (four n) (fours ns) 0 k g)
    go ih (inr g) =
        let q : k / 4 ≡ suc ((k - 4) / 4) = omega arith in
        let r : k % 4 ≡ (k - 4) % 4 = omega arith in
        let e : 4 + (k - 4) ≡ k = omega arith in
        rw (q, r) (ap (λ (x : ℕ). get_or (four n ++ fours ns) x 0) (sym e) ∙ get_or-append-add (four n) (fours ns) (k - 4) 0 ∙ ih g)

-- ---- the inputs of these counts

module _ (n : ℕ) (b : List ℤ) (counts : List ℕ) where
  pub length-inputs : length (inputs_of n b counts) ≡ 2 + 4 * length counts
  unfolding inputs_of
  length-inputs = omega (arith, length-fours counts)

  pub input-four : (p : ℕ) → 2 ≤ p → p < 2 + 4 * length counts
      → get_or (inputs_of n b counts) p 0 ≡ get_or (four (get_or counts ((p - 2) / 4) 0)) ((p - 2) % 4) 0
  unfolding inputs_of
  input-four p l h =
      let e : p ≡ suc (suc (p - 2)) = omega arith in
      ap (λ (x : ℕ). get_or ((n - x_all b) ∷ (n - o_all b) ∷ fours counts) x 0) e ∙ get_or-fours counts (p - 2) (omega arith)

-- ---- which count

-- an entry of two stretches
two : (f g : ℕ → ℕ) (i j m n k : ℕ)
    → (k < m → get_or (values f i m ++ values g j n) k 0 ≡ f (i + k)) × (m ≤ k → k < m + n → get_or (values f i m ++ values g j n) k 0 ≡ g (j + (k - m)))
two f g i j m n k =
    let l = length-values f i m in (
      λ (h : k < m). get_or-append (values f i m) (values g j n) 0 k (omega arith) ∙ get_or-values f i m k 0 h,
      λ (h : m ≤ k) (t : k < m + n).
          let e : k ≡ length (values f i m) + (k - m) = omega arith in
          ap (λ (x : ℕ). get_or (values f i m ++ values g j n) x 0) e
          ∙ get_or-append-add (values f i m) (values g j n) (k - m) 0
          ∙ get_or-values g j n (k - m) 0 (omega arith),
    )

module _ (b : List ℤ) where
  pub length-contact : length (contact_counts b) ≡ 50
  unfolding contact_counts values
  length-contact = refl

  pub length-race : length (race_counts b) ≡ 46
  unfolding race_counts values
  length-race = refl

module _ (b : List ℤ) (k : ℕ) where
  pub contact-bar : k ≡ 0 → get_or (contact_counts b) k 0 ≡ xs b 25
  unfolding contact_counts
  contact-bar e = rw e

  pub contact-x : (k ≡ 0 → ⊥) → k < 25 → get_or (contact_counts b) k 0 ≡ xs b k
  unfolding contact_counts
  contact-x n h =
      let e : k ≡ suc (k - 1) = omega (arith, n) in
      let f : 1 + (k - 1) ≡ k = omega (arith, n) in
      ap (λ (x : ℕ). get_or (xs b 25 ∷ values (xs b) 1 24 ++ values (os b) 0 25) x 0) e
      ∙ (two (xs b) (os b) 1 0 24 25 (k - 1)).0 (omega arith)
      ∙ ap (xs b) f

  pub contact-o : 25 ≤ k → k < 50 → get_or (contact_counts b) k 0 ≡ os b (k - 25)
  unfolding contact_counts
  contact-o l h =
      let e : k ≡ suc (k - 1) = omega arith in
      let f : 0 + (k - 1 - 24) ≡ k - 25 = omega arith in
      ap (λ (x : ℕ). get_or (xs b 25 ∷ values (xs b) 1 24 ++ values (os b) 0 25) x 0) e
      ∙ (two (xs b) (os b) 1 0 24 25 (k - 1)).1 (omega arith) (omega arith)
      ∙ ap (os b) f

  pub race-x : k < 23 → get_or (race_counts b) k 0 ≡ xs b (k + 1)
  unfolding race_counts
  race-x h = let f : 1 + k ≡ k + 1 = omega arith in (two (xs b) (os b) 1 2 23 23 k).0 h ∙ ap (xs b) f

  pub race-o : 23 ≤ k → k < 46 → get_or (race_counts b) k 0 ≡ os b (k - 21)
  unfolding race_counts
  race-o l h = let f : 2 + (k - 23) ≡ k - 21 = omega arith in (two (xs b) (os b) 1 2 23 23 k).1 l h ∙ ap (os b) f
