-- The bytes of an end: what each of them is, and how they change with an entry of the board.
-- Assumes nothing.
use mathlib.Core.Path.{◌≡◌, sym, ap, ◌∙◌}
use mathlib.Core.List.{List}
use Prim.Native.Nat.{ℕ, ◌+◌, ◌-◌, ◌≤◌, ◌<◌}
use native.Mathlib.Decide.{ℕ_discrete}
use native.Mathlib.Omega.{arith}
use lib.IntN.{ℤ, pos, neg_ℤ}
use lib.ListN.{length, get_or, set, length-map, length-set, get_or-map}
use lib.Seq.{sets, ext_get_or, get_or-set_same, get_or-set_other}
use Rattle.ints.specs.Twos.{twos}
use Rattle.ints.proofs.Lent.{set-sets}
use Rattle.position.specs.Board.{entry, switched}
use Rattle.position.proofs.SideSwitch.{switched-size, switched-at}
use Rattle.moves.specs.Bytes.{image}

-- byte k is that of entry 25 - k, negated
abbrev pub byte_at : List ℤ → ℕ → ℕ
byte_at b k = twos (neg_ℤ (entry b (25 - k)))

module _ (b : List ℤ) where
  pub image-size : length (image b) ≡ 26
  unfolding image
  image-size = length-map (switched b) twos ∙ switched-size b

  image-at : (k : ℕ) → k < 26 → get_or (image b) k 0 ≡ byte_at b k
  unfolding image twos
  image-at k h = get_or-map twos (switched b) k (pos 0) ∙ ap twos (switched-at b k h)

  -- a list of these bytes is the image
  pub image-is : (l : List ℕ) → length l ≡ 26 → ((k : ℕ) → k < 26 → get_or l k 0 ≡ byte_at b k) → l ≡ image b
  image-is l s h = ext_get_or 0 l (image b) (s ∙ sym image-size) (λ k m. let m' : k < 26 = omega arith in h k m' ∙ sym (image-at k m'))

-- an entry set in the board is a byte set in the image
image-set : (b : List ℤ) (p : ℕ) (z : ℤ) → length b ≡ 26 → p ≤ 25 → set (image b) (25 - p) (twos (neg_ℤ z)) ≡ image (set b p z)
image-set b p z s h =
    let x = twos (neg_ℤ z) in
    let l = image-size b in
    image-is (set b p z) (set (image b) (25 - p) x) (length-set (image b) (25 - p) x ∙ l)
    (λ k m. elim (ℕ_discrete k (25 - p)) [
      | yes e ↦
          let q : 25 - (25 - p) ≡ p = omega arith in
          rw e
          (get_or-set_same (image b) (25 - p) x 0 (omega arith) ∙ rw q (ap (λ (y : ℤ). twos (neg_ℤ y)) (sym (get_or-set_same b p z (pos 0) (omega arith)))))
      | no n ↦
          get_or-set_other (image b) (25 - p) k x 0 n ∙ image-at b k m
          ∙ ap (λ (y : ℤ). twos (neg_ℤ y)) (sym (get_or-set_other b p (25 - k) z (pos 0) (λ e. n (omega arith))))
    ])

-- the bytes o are o₀ with the image of the board b stored from `at` on
pub record Holds (o₀ : List ℕ) (at : ℕ) (o : List ℕ) (b : List ℤ) : Type 0 where
  pub size : length b ≡ 26
  pub is : o ≡ sets o₀ at (image b)

pub holds-is : {o₀ : List ℕ} {at : ℕ} {o : List ℕ} {b : List ℤ} (c : List ℤ) → b ≡ c → Holds o₀ at o b → o ≡ sets o₀ at (image c)
holds-is {o₀} {at} c e v = v.is ∙ ap (λ (x : List ℤ). sets o₀ at (image x)) e

-- then a byte of them stored anew is an entry of the board set
pub holds-set : {o₀ : List ℕ} {at : ℕ} {o : List ℕ} {b : List ℤ} (p : ℕ) (z : ℤ) (x : ℕ) {o' : List ℕ} → p ≤ 25 → x ≡ twos (neg_ℤ z)
    → o' ≡ set o (at + 25 - p) x → Holds o₀ at o b → Holds o₀ at o' (set b p z)
holds-set {o₀} {at} {o} {b} p z x h e new v =
    let i : at + 25 - p ≡ at + (25 - p) = omega arith in
    let l = image-size b in
    record {
      size = length-set b p z ∙ v.size;
      is =
          new
          ∙ rw (i, v.is, e) (set-sets o₀ at (image b) (25 - p) (twos (neg_ℤ z)) (omega arith) ∙ ap (sets o₀ at) (image-set b p z v.size h));
    }
