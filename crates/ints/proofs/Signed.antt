-- Signed numbers for `omega`: z is `pos_part z` less `neg_part z`, two whole numbers of which one is 0.
-- Each law turns a fact of signed numbers, as a test, a sum or a range gives it, into one on those parts.
--     apart              one of the two is 0, as an equation with a difference, which `omega` reads
--     lt_yes, lt_no      a test that held, or failed
--     plus, less         a sum, a difference
--     same_parts         two numbers with equal parts are equal
--     held               a number as the machine's local of that width has it, and what it stores and tests
-- Assumes nothing.
use mathlib.Core.Path.{◌≡◌, refl, sym, ap, ◌∙◌, subst}
use mathlib.Core.Bool.{true, false}
use mathlib.Core.List.{List, [], ◌∷◌}
use Prim.Native.Nat.{ℕ, zero, suc, ◌+◌, ◌-◌, ◌^◌, ◌≤◌, ◌<◌}
use native.Mathlib.Omega.{arith}
use lib.IntN.{ℤ, pos, negsuc, neg_ℤ, suc_ℤ, pred_ℤ, nat_abs, sub_ℕ, ◌+ℤ◌, ◌-ℤ◌, +ℤ_idl, +ℤ_comm, +ℤ_one, -ℤ_one, neg_ℤ-suc_ℤ, neg_ℤ-pred_ℤ}
use lib.ListN.{set}
use lib.Signed.{mag, lt_z, le_z, non_neg}
use lib.Dec.{T, ltb, leb, leb-suc-suc}
use borrow.Author.Tests.{ltb-true, ltb-false}
use mir.Syntax.{Width}
use mir.Val.{SFits, to_z, of_z, hbits}
use mir.ValLaws.{to_z-of_z}
use Rattle.ints.specs.Signed.{pos_part, neg_part, Small}
use Rattle.ints.proofs.Tests.{by_cond}

pub apart : (z : ℤ) → pos_part z - neg_part z ≡ pos_part z
apart (pos n) = omega arith
apart (negsuc n) = omega arith

-- ---- tests

never : {X : Type 0} → true ≡ false → X
never e = absurd (subst T e tt)

pub lt_yes : (a b : ℤ) → lt_z a b ≡ true → pos_part a + neg_part b < pos_part b + neg_part a
lt_yes (pos a) (pos b) e = omega (arith, ltb-true a b e)
lt_yes (pos a) (negsuc b) e = never (sym e)
lt_yes (negsuc a) (pos b) e = omega arith
lt_yes (negsuc a) (negsuc b) e = omega (arith, ltb-true b a e)

pub lt_no : (a b : ℤ) → lt_z a b ≡ false → pos_part b + neg_part a ≤ pos_part a + neg_part b
lt_no (pos a) (pos b) e = omega (arith, ltb-false a b e)
lt_no (pos a) (negsuc b) e = omega arith
lt_no (negsuc a) (pos b) e = never e
lt_no (negsuc a) (negsuc b) e = omega (arith, ltb-false b a e)

-- ---- sums, differences, negation, one more and one less

sub_parts : (a b : ℕ) → pos_part (sub_ℕ a b) + b ≡ a + neg_part (sub_ℕ a b)
sub_parts a b =
    by_cond (ltb a b) (negsuc (b - suc a)) (pos (a - b)) (λ z. pos_part z + b ≡ a + neg_part z)
    (λ e. let h : a < b = ltb-true a b e in omega arith)
    (λ e. let h : b ≤ a = ltb-false a b e in omega arith)

pub plus : (a b : ℤ) → pos_part (a +ℤ b) + (neg_part a + neg_part b) ≡ pos_part a + pos_part b + neg_part (a +ℤ b)
plus (pos a) (pos b) = omega arith
plus (pos a) (negsuc b) = omega (arith, sub_parts a (suc b))
plus (negsuc a) (pos b) = omega (arith, sub_parts b (suc a))
plus (negsuc a) (negsuc b) = omega arith

pub neg-pos_part : (z : ℤ) → pos_part (neg_ℤ z) ≡ neg_part z
neg-pos_part (pos zero) = refl
neg-pos_part (pos (suc n)) = refl
neg-pos_part (negsuc n) = refl

pub neg-neg_part : (z : ℤ) → neg_part (neg_ℤ z) ≡ pos_part z
neg-neg_part (pos zero) = refl
neg-neg_part (pos (suc n)) = refl
neg-neg_part (negsuc n) = refl

pub less : (a b : ℤ) → pos_part (a -ℤ b) + (neg_part a + pos_part b) ≡ pos_part a + neg_part b + neg_part (a -ℤ b)
less a b = omega (arith, plus a (neg_ℤ b), neg-pos_part b, neg-neg_part b)

-- one less, of a number above 0 and of one that is not; one more, of a number that is not below 0
pub pred-above : (z : ℤ) → 0 < pos_part z → (pos_part (pred_ℤ z) + 1 ≡ pos_part z) × (neg_part (pred_ℤ z) ≡ neg_part z)
pred-above (pos zero) h = omega arith
pred-above (pos (suc n)) h = (omega arith, refl)
pred-above (negsuc n) h = omega arith

pub pred-below : (z : ℤ) → pos_part z ≡ 0 → (pos_part (pred_ℤ z) ≡ 0) × (neg_part (pred_ℤ z) ≡ neg_part z + 1)
pred-below (pos zero) h = (refl, refl)
pred-below (pos (suc n)) h = omega arith
pred-below (negsuc n) h = (refl, omega arith)

pub suc-above : (z : ℤ) → neg_part z ≡ 0 → (pos_part (suc_ℤ z) ≡ pos_part z + 1) × (neg_part (suc_ℤ z) ≡ 0)
suc-above (pos n) h = (omega arith, refl)
suc-above (negsuc n) h = omega arith

pub same_parts : (a b : ℤ) → pos_part a ≡ pos_part b → neg_part a ≡ neg_part b → a ≡ b
same_parts (pos a) (pos b) p q = ap pos p
same_parts (pos a) (negsuc b) p q = absurd (omega arith)
same_parts (negsuc a) (pos b) p q = absurd (omega arith)
same_parts (negsuc a) (negsuc b) p q = ap negsuc (omega arith)

pub abs-parts : (z : ℤ) → nat_abs z ≡ pos_part z + neg_part z
abs-parts (pos n) = omega arith
abs-parts (negsuc n) = omega arith

pub not_neg : (z : ℤ) → neg_part z ≡ 0 → T (non_neg z)
not_neg (pos n) e = tt
not_neg (negsuc n) e = absurd (omega arith)

-- ---- ranges

pub pos_part-lt : (z : ℤ) (m : ℕ) → mag z < m → pos_part z < m
pos_part-lt (pos n) m h = h
pos_part-lt (negsuc n) m h = omega arith

pub neg_part-le : (z : ℤ) (m : ℕ) → mag z < m → neg_part z ≤ m
neg_part-le (pos n) m h = omega arith
neg_part-le (negsuc n) m h = h

pub in-range : (z : ℤ) (m : ℕ) → pos_part z < m → neg_part z ≤ m → mag z < m
in-range (pos n) m h k = h
in-range (negsuc n) m h k = k

mag-neg : (z : ℤ) → mag (neg_ℤ z) ≤ suc (mag z)
mag-neg (pos zero) = omega arith
mag-neg (pos (suc n)) = omega arith
mag-neg (negsuc n) = omega arith

pub mag_pred : (z : ℤ) → mag (pred_ℤ z) ≤ suc (mag z)
mag_pred (pos zero) = omega arith
mag_pred (pos (suc n)) = omega arith
mag_pred (negsuc n) = omega arith

pub mag_suc : (z : ℤ) → mag (suc_ℤ z) ≤ suc (mag z)
mag_suc (pos n) = omega arith
mag_suc (negsuc zero) = omega arith
mag_suc (negsuc (suc n)) = omega arith

-- ---- lists of small numbers

pub small-set : (k : ℕ) (l : List ℤ) (i : ℕ) (z : ℤ) → Small k l → mag z ≤ k → Small k (set l i z)
small-set k [] i z s h j = s j
small-set k (x ∷ l) zero z s h zero = h
small-set k (x ∷ l) zero z s h (suc j) = s (suc j)
small-set k (x ∷ l) (suc i) z s h zero = s 0
small-set k (x ∷ l) (suc i) z s h (suc j) = small-set k l i z (λ m. s (suc m)) h j

pub small-more : (k m : ℕ) (l : List ℤ) → k ≤ m → Small k l → Small m l
small-more k m l h s i = omega (arith, s i)

-- ---- the machine's locals of a width

-- z as a local holds it
abbrev pub held : Width → ℤ → ℤ
held w z = to_z w (of_z w z)

-- a number that fits is held as it is
pub held-is : (w : Width) (z : ℤ) → mag z < 2 ^ hbits w → held w z ≡ z
held-is w z h = to_z-of_z w z (record { sfits = h })

-- numbers with the same bits are equal
pub same_bits : (w : Width) (y z : ℤ) → mag y < 2 ^ hbits w → mag z < 2 ^ hbits w → of_z w z ≡ of_z w y → z ≡ y
same_bits w y z g h e = sym (held-is w z h) ∙ ap (to_z w) e ∙ held-is w y g

-- what the code stores: -z, z - 1 and z + 1 fit, and are held as those numbers
module _ (w : Width) (z : ℤ) (h : suc (mag z) < 2 ^ hbits w) where
  same : held w z ≡ z
  same = held-is w z (omega arith)

  minus : pos 0 -ℤ held w z ≡ neg_ℤ z
  minus = rw same (+ℤ_idl (neg_ℤ z))

  pub neg-fits : SFits w (pos 0 -ℤ held w z)
  neg-fits = rw minus record { sfits = omega (arith, mag-neg z) }

  pub neg-held : held w (pos 0 -ℤ held w z) ≡ neg_ℤ z
  neg-held = rw minus (held-is w (neg_ℤ z) (omega (arith, mag-neg z)))

  before : held w z -ℤ pos 1 ≡ pred_ℤ z
  before = rw same (-ℤ_one z)

  pub pred_fits : SFits w (held w z -ℤ pos 1)
  pred_fits = rw before record { sfits = omega (arith, mag_pred z) }

  pub pred-held : held w (held w z -ℤ pos 1) ≡ pred_ℤ z
  pred-held = rw before (held-is w (pred_ℤ z) (omega (arith, mag_pred z)))

  after : held w z +ℤ pos 1 ≡ suc_ℤ z
  after = rw same (+ℤ_one z)

  pub suc-fits : SFits w (held w z +ℤ pos 1)
  suc-fits = rw after record { sfits = omega (arith, mag_suc z) }

  pub suc-held : held w (held w z +ℤ pos 1) ≡ suc_ℤ z
  suc-held = rw after (held-is w (suc_ℤ z) (omega (arith, mag_suc z)))

-- 1 - z and -1 - z, which are z - 1 and z + 1 with the other sign
module _ (w : Width) (z : ℤ) (h : suc (suc (mag z)) < 2 ^ hbits w) where
  one_less : pos 1 -ℤ held w z ≡ neg_ℤ (pred_ℤ z)
  one_less = rw (held-is w z (omega arith)) (+ℤ_comm (pos 1) (neg_ℤ z) ∙ +ℤ_one (neg_ℤ z) ∙ sym (neg_ℤ-pred_ℤ z))

  turned-pred : mag (neg_ℤ (pred_ℤ z)) < 2 ^ hbits w
  turned-pred = omega (arith, mag-neg (pred_ℤ z), mag_pred z)

  pub turned-pred-fits : SFits w (pos 1 -ℤ held w z)
  turned-pred-fits = rw one_less record { sfits = turned-pred }

  pub turned-pred-held : held w (pos 1 -ℤ held w z) ≡ neg_ℤ (pred_ℤ z)
  turned-pred-held = rw one_less (held-is w (neg_ℤ (pred_ℤ z)) turned-pred)

  minus-one-less : negsuc 0 -ℤ held w z ≡ neg_ℤ (suc_ℤ z)
  minus-one-less = rw (held-is w z (omega arith)) (+ℤ_comm (negsuc 0) (neg_ℤ z) ∙ -ℤ_one (neg_ℤ z) ∙ sym (neg_ℤ-suc_ℤ z))

  turned-suc : mag (neg_ℤ (suc_ℤ z)) < 2 ^ hbits w
  turned-suc = omega (arith, mag-neg (suc_ℤ z), mag_suc z)

  pub turned-suc-fits : SFits w (negsuc 0 -ℤ held w z)
  turned-suc-fits = rw minus-one-less record { sfits = turned-suc }

  pub turned-suc-held : held w (negsuc 0 -ℤ held w z) ≡ neg_ℤ (suc_ℤ z)
  turned-suc-held = rw minus-one-less (held-is w (neg_ℤ (suc_ℤ z)) turned-suc)

-- the tests that code makes of a number z that fits, as facts on its parts
module _ (w : Width) (z : ℤ) (g : mag z < 2 ^ hbits w) where
  -- z > 0
  pub above-yes : lt_z (pos 0) (held w z) ≡ true → 0 < pos_part z
  above-yes e = omega (arith, apart z, lt_yes (pos 0) z (rw (held-is w z g) at e))

  pub above-no : lt_z (pos 0) (held w z) ≡ false → pos_part z ≡ 0
  above-no e = omega (arith, apart z, lt_no (pos 0) z (rw (held-is w z g) at e))

  -- z < 0
  pub below-yes : lt_z (held w z) (pos 0) ≡ true → 0 < neg_part z
  below-yes e = omega (arith, apart z, lt_yes z (pos 0) (rw (held-is w z g) at e))

  pub below-no : lt_z (held w z) (pos 0) ≡ false → neg_part z ≡ 0
  below-no e = omega (arith, apart z, lt_no z (pos 0) (rw (held-is w z g) at e))

  -- z < 1
  pub none-yes : lt_z (held w z) (pos 1) ≡ true → pos_part z ≡ 0
  none-yes e = omega (arith, apart z, lt_yes z (pos 1) (rw (held-is w z g) at e))

  pub none-no : lt_z (held w z) (pos 1) ≡ false → 0 < pos_part z
  none-no e = omega (arith, apart z, lt_no z (pos 1) (rw (held-is w z g) at e))

  -- z >= -1, as a value
  pub open_is : le_z (negsuc 0) (held w z) ≡ leb (neg_part z) 1
  open_is = rw (held-is w z g) (by_sign z)
    where
      by_sign : (y : ℤ) → le_z (negsuc 0) y ≡ leb (neg_part y) 1
      by_sign (pos n) = refl
      by_sign (negsuc n) = sym (leb-suc-suc n 0)

  -- z == -1, whose fact is on the bits
  pub lone-yes : 0 < 2 ^ hbits w → of_z w z ≡ of_z w (negsuc 0) → z ≡ negsuc 0
  lone-yes h e = same_bits w (negsuc 0) z h g e

  pub lone-no : (of_z w z ≡ of_z w (negsuc 0) → ⊥) → neg_part z ≡ 1 → ⊥
  lone-no n e = n (ap (of_z w) (same_parts z (negsuc 0) (omega (arith, apart z)) e))
