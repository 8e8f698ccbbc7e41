-- Laws of `bit`, the binary digits of a number: halves, shifts, the lowest digits, powers, and, or, xor. Assumes nothing.
use mathlib.Core.Path.{◌≡◌, refl, sym, ap, ◌∙◌}
use mathlib.Core.Bool.{Bool, true, false, not, cond, ◌&&◌, ◌||◌, and-true, and-false}
use mathlib.Core.Logic.{◌⊎◌, inl, inr}
use Prim.Native.Nat.{ℕ, zero, suc, ◌+◌, ◌-◌, ◌*◌, ◌/◌, ◌%◌, ◌^◌, ◌<◌, ◌≤◌}
use native.Mathlib.Nat.{div-eq_of_lt, div-eq_of_lt-le, mod-lt, mul_assoc, pow-suc}
use native.Mathlib.Omega.{arith}
use borrow.Author.Tests.{eq-eqb, ne_eqb, eqb-true, lt-ltb, le-ltb}
use lib.Bits.{bit_and, bit_or, bit_xor, and_mask, and_shr, or_shr, xor_shr, and_mod, or_mod, xor_mod, shifted_even}
use lib.Dec.{ltb, eqb, eqb-zero-suc, eqb-suc-zero, eqb-suc-suc}
use lib.Pow.{pow_mono, pow_pos, pow-add, shl-shr, shl_exact, shr-shr, field, mod-mod-pow}
use Rattle.ints.specs.Bits.{bit, digit}
use Rattle.ints.proofs.Tests.{lt-or-le}

-- ---- the last digit and the rest

pub bit-zero : (m : ℕ) → bit m 0 ≡ eqb (m % 2) 1
bit-zero m = let e : m / 1 ≡ m = omega arith in ap (λ (x : ℕ). eqb (x % 2) 1) e

pub bit-shr : (m d i : ℕ) → bit (m / 2 ^ d) i ≡ bit m (d + i)
bit-shr m d i = ap (λ (x : ℕ). eqb (x % 2) 1) (shr-shr m d i)

pub bit-suc : (m i : ℕ) → bit m (suc i) ≡ bit (m / 2) i
bit-suc m i = let e : 1 + i ≡ suc i = omega arith in sym (bit-shr m 1 i ∙ ap (bit m) e)

pub bit-push-zero : (m : ℕ) (t : Bool) → bit (m * 2 + digit t) 0 ≡ t
bit-push-zero m true = eq-eqb ((m * 2 + 1) / 1 % 2) 1 (omega arith)
bit-push-zero m false = ne_eqb ((m * 2 + 0) / 1 % 2) 1 (λ e. omega arith)

pub bit-push-suc : (m : ℕ) (t : Bool) (i : ℕ) → bit (m * 2 + digit t) (suc i) ≡ bit m i
bit-push-suc m t i = bit-suc (m * 2 + digit t) i ∙ ap (λ (x : ℕ). bit x i) (half t)
  where
    half : (t : Bool) → (m * 2 + digit t) / 2 ≡ m
    half true = omega arith
    half false = omega arith

-- equal digits make equal numbers
pub bit-ext : (a b : ℕ) → ((i : ℕ) → bit a i ≡ bit b i) → a ≡ b
bit-ext a b h = go (a + b) a b (omega arith) (omega arith) h
  where
    last : (a b r s : ℕ) → a % 2 ≡ r → b % 2 ≡ s → eqb r 1 ≡ eqb s 1 → a % 2 ≡ b % 2
    last a b zero zero p q e = omega arith
    last a b (suc zero) (suc zero) p q e = omega arith
    last a b zero (suc zero) p q e = let z : ◌≡◌ {A = ℕ} 0 1 = cc in absurd (omega arith)
    last a b (suc zero) zero p q e = let z : ◌≡◌ {A = ℕ} 0 1 = cc in absurd (omega arith)
    last a b (suc (suc r)) s p q e = absurd (omega arith)
    last a b zero (suc (suc s)) p q e = absurd (omega arith)
    last a b (suc zero) (suc (suc s)) p q e = absurd (omega arith)

    go : (k a b : ℕ) → a ≤ k → b ≤ k → ((i : ℕ) → bit a i ≡ bit b i) → a ≡ b
    go zero a b f g h = omega arith
    go (suc k) a b f g h =
        let e = go k (a / 2) (b / 2) (omega arith) (omega arith) (λ i. sym (bit-suc a i) ∙ h (suc i) ∙ bit-suc b i) in
        let r = last a b (a % 2) (b % 2) refl refl (sym (bit-zero a) ∙ h 0 ∙ bit-zero b) in
        omega arith

-- ---- bounds

pub bit-lt : (m k i : ℕ) → m < 2 ^ k → k ≤ i → bit m i ≡ false
bit-lt m k i h l =
    let u : 2 ^ k ≤ 2 ^ i = pow_mono l in
    let z : m / 2 ^ i ≡ 0 = div-eq_of_lt (omega arith) in
    ap (λ (x : ℕ). eqb (x % 2) 1) z

pub bit-none : (i : ℕ) → bit 0 i ≡ false
bit-none i = bit-lt 0 0 i (omega arith) (omega arith)

-- the highest digit
pub bit-top : (m j : ℕ) → 2 ^ j ≤ m → m < 2 ^ suc j → bit m j ≡ true
bit-top m j l h =
    let d = pow-suc 2 j in
    let o : m / 2 ^ j ≡ 1 = div-eq_of_lt-le {k = 1} (2 ^ j) (omega arith) (omega arith) in
    ap (λ (x : ℕ). eqb (x % 2) 1) o

-- a power within a number, and a digit that is 1, stand below every bound of the number
pub pow_below : (m k q : ℕ) → 2 ^ q ≤ m → m < 2 ^ k → q < k
pow_below m k q l h = go (lt-or-le q k)
  where
    go : (q < k) ⊎ (k ≤ q) → q < k
    go (inl a) = a
    go (inr a) = let u : 2 ^ k ≤ 2 ^ q = pow_mono a in absurd (omega arith)

pub bit_le : (m q : ℕ) → bit m q ≡ true → 2 ^ q ≤ m
bit_le m q e = go (lt-or-le m (2 ^ q))
  where
    go : (m < 2 ^ q) ⊎ (2 ^ q ≤ m) → 2 ^ q ≤ m
    go (inr l) = l
    go (inl l) = let f = bit-lt m q q l (omega arith) in let z : ◌≡◌ {A = ℕ} 0 1 = cc in absurd (omega arith)

pub bit_below : (m k q : ℕ) → bit m q ≡ true → m < 2 ^ k → q < k
bit_below m k q e h = pow_below m k q (bit_le m q e) h

-- ---- shifts and the lowest digits

pub bit-shl-ge : (a d i : ℕ) → d ≤ i → bit (a * 2 ^ d) i ≡ bit a (i - d)
bit-shl-ge a d i h =
    let e : d + (i - d) ≡ i = omega arith in
    ap (bit (a * 2 ^ d)) (sym e) ∙ sym (bit-shr (a * 2 ^ d) d (i - d)) ∙ ap (λ (x : ℕ). bit x (i - d)) (shl-shr a d)

pub bit-shl-lt : (a d i : ℕ) → i < d → bit (a * 2 ^ d) i ≡ false
bit-shl-lt a d i h =
    let k = d - suc i in
    let e : suc k + i ≡ d = omega arith in
    let q : a * 2 ^ d / 2 ^ i ≡ a * 2 ^ suc k =
    ap (λ (n : ℕ). a * 2 ^ n / 2 ^ i) (sym e) ∙ ap (λ (n : ℕ). a * n / 2 ^ i) (pow-add 2 (suc k) i)
    ∙ ap (λ (n : ℕ). n / 2 ^ i) (sym (mul_assoc a (2 ^ suc k) (2 ^ i))) ∙ shl-shr (a * 2 ^ suc k) i in
    ap (λ (x : ℕ). eqb (x % 2) 1) q ∙ ap (λ (x : ℕ). eqb x 1) (shifted_even a k)

pub bit-mod-lt : (n k i : ℕ) → i < k → bit (n % 2 ^ k) i ≡ bit n i
bit-mod-lt n k i h =
    let j = k - suc i in
    let e : suc j + i ≡ k = omega arith in
    let f : j + 1 ≡ suc j = omega arith in
    let q : n % 2 ^ k / 2 ^ i ≡ n / 2 ^ i % 2 ^ suc j = ap (λ (x : ℕ). n % 2 ^ x / 2 ^ i) (sym e) ∙ field n (suc j) i in
    let r : n / 2 ^ i % 2 ^ suc j % 2 ≡ n / 2 ^ i % 2 = ap (λ (x : ℕ). n / 2 ^ i % 2 ^ x % 2) (sym f) ∙ mod-mod-pow (n / 2 ^ i) j 1 in
    ap (λ (x : ℕ). eqb x 1) (ap (λ (x : ℕ). x % 2) q ∙ r)

pub bit-mod-ge : (n k i : ℕ) → k ≤ i → bit (n % 2 ^ k) i ≡ false
bit-mod-ge n k i h = bit-lt (n % 2 ^ k) k i (mod-lt n (pow_pos k)) h

pub bit-mod : (n k i : ℕ) → bit (n % 2 ^ k) i ≡ (ltb i k && bit n i)
bit-mod n k i = go (lt-or-le i k)
  where
    go : (i < k) ⊎ (k ≤ i) → bit (n % 2 ^ k) i ≡ (ltb i k && bit n i)
    go (inl l) = rw (lt-ltb i k l) (bit-mod-lt n k i l)
    go (inr l) = rw (le-ltb i k l) (bit-mod-ge n k i l)

-- ---- one digit

pub bit-pow : (q i : ℕ) → bit (2 ^ q) i ≡ eqb i q
bit-pow zero zero = refl
bit-pow zero (suc i) = bit-suc 1 i ∙ bit-none i ∙ sym (eqb-suc-zero i)
bit-pow (suc q) zero =
    let e : 2 ^ suc q % 2 ≡ 0 = omega (arith, pow-suc 2 q) in
    bit-zero (2 ^ suc q) ∙ rw e (sym (eqb-zero-suc q))
bit-pow (suc q) (suc i) =
    let e : 2 ^ suc q / 2 ≡ 2 ^ q = omega (arith, pow-suc 2 q) in
    bit-suc (2 ^ suc q) i ∙ ap (λ (x : ℕ). bit x i) e ∙ bit-pow q i ∙ sym (eqb-suc-suc i q)

-- a number without one of its digits
pub bit-clear : (m q : ℕ) → bit m q ≡ true → (i : ℕ) → bit (m - 2 ^ q) i ≡ (bit m i && not (eqb i q))
bit-clear m zero e zero =
    let o : m % 2 ≡ 1 = eqb-true (m % 2) 1 (sym (bit-zero m) ∙ e) in
    let z : (m - 1) % 2 ≡ 0 = omega arith in
    bit-zero (m - 1) ∙ rw z (sym (and-false (bit m 0)))
bit-clear m zero e (suc i) =
    let o : m % 2 ≡ 1 = eqb-true (m % 2) 1 (sym (bit-zero m) ∙ e) in
    let z : (m - 1) / 2 ≡ m / 2 = omega arith in
    rw eqb-suc-zero (bit-suc (m - 1) i ∙ rw z (sym (bit-suc m i) ∙ sym (and-true (bit m (suc i)))))
bit-clear m (suc q) e zero =
    let l = bit_le m (suc q) e in
    let z : (m - 2 ^ suc q) % 2 ≡ m % 2 = omega (arith, pow-suc 2 q) in
    rw eqb-zero-suc (bit-zero (m - 2 ^ suc q) ∙ rw z (sym (bit-zero m) ∙ sym (and-true (bit m 0))))
bit-clear m (suc q) e (suc i) =
    let l = bit_le m (suc q) e in
    let z : (m - 2 ^ suc q) / 2 ≡ m / 2 - 2 ^ q = omega (arith, pow-suc 2 q) in
    rw eqb-suc-suc
    (bit-suc (m - 2 ^ suc q) i ∙ rw z (bit-clear (m / 2) q (sym (bit-suc m q) ∙ e) i ∙ ap (λ (t : Bool). t && not (eqb i q)) (sym (bit-suc m i))))

-- ---- and, or, xor

-- an operation on two last digits is known by its four cases
last_digits : (f : ℕ → ℕ → ℕ) (g : Bool → Bool → Bool)
    → eqb (f 0 0) 1 ≡ g false false → eqb (f 0 1) 1 ≡ g false true → eqb (f 1 0) 1 ≡ g true false → eqb (f 1 1) 1 ≡ g true true
    → (a b : ℕ) → eqb (f (a % 2) (b % 2)) 1 ≡ g (eqb (a % 2) 1) (eqb (b % 2) 1)
last_digits f g oo oi io ii a b = go (a % 2) (b % 2) (omega arith) (omega arith)
  where
    go : (r s : ℕ) → r < 2 → s < 2 → eqb (f r s) 1 ≡ g (eqb r 1) (eqb s 1)
    go zero zero h l = oo
    go zero (suc zero) h l = oi
    go (suc zero) zero h l = io
    go (suc zero) (suc zero) h l = ii
    go (suc (suc r)) s h l = absurd (omega arith)
    go zero (suc (suc s)) h l = absurd (omega arith)
    go (suc zero) (suc (suc s)) h l = absurd (omega arith)

pub bit-and : (a b i : ℕ) → bit (bit_and a b) i ≡ (bit a i && bit b i)
bit-and a b i =
    ap (λ (x : ℕ). eqb x 1) (ap (λ (x : ℕ). x % 2) (and_shr a b i) ∙ and_mod (a / 2 ^ i) (b / 2 ^ i) 1)
    ∙ last_digits bit_and ◌&&◌ refl refl refl refl (a / 2 ^ i) (b / 2 ^ i)

pub bit-or : (a b i : ℕ) → bit (bit_or a b) i ≡ (bit a i || bit b i)
bit-or a b i =
    ap (λ (x : ℕ). eqb x 1) (ap (λ (x : ℕ). x % 2) (or_shr a b i) ∙ or_mod (a / 2 ^ i) (b / 2 ^ i) 1)
    ∙ last_digits bit_or ◌||◌ refl refl refl refl (a / 2 ^ i) (b / 2 ^ i)

pub bit-xor : (a b i : ℕ) → bit (bit_xor a b) i ≡ cond (bit b i) (not (bit a i)) (bit a i)
bit-xor a b i =
    ap (λ (x : ℕ). eqb x 1) (ap (λ (x : ℕ). x % 2) (xor_shr a b i) ∙ xor_mod (a / 2 ^ i) (b / 2 ^ i) 1)
    ∙ last_digits bit_xor (λ (r s : Bool). cond s (not r) r) refl refl refl refl (a / 2 ^ i) (b / 2 ^ i)

-- one digit put in or taken out
pub bit-or-pow : (m q i : ℕ) → bit (bit_or m (2 ^ q)) i ≡ (bit m i || eqb i q)
bit-or-pow m q i = bit-or m (2 ^ q) i ∙ ap (λ (t : Bool). bit m i || t) (bit-pow q i)

pub bit-xor-pow : (m q i : ℕ) → bit (bit_xor m (2 ^ q)) i ≡ cond (eqb i q) (not (bit m i)) (bit m i)
bit-xor-pow m q i = bit-xor m (2 ^ q) i ∙ ap (λ (t : Bool). cond t (not (bit m i)) (bit m i)) (bit-pow q i)

-- ---- what the machine shifts

-- 1 shifted within the width is a power
pub shl_one : (w q : ℕ) → q < w → (1 * 2 ^ q) % 2 ^ w ≡ 2 ^ q
shl_one w q h = shl_exact 1 q w (omega arith) (omega arith) ∙ omega arith

-- the digits below k, by a mask of k 1s
pub and-ones : (w m k : ℕ) → k < w → bit_and m ((1 * 2 ^ k) % 2 ^ w - 1) ≡ m % 2 ^ k
and-ones w m k h = rw (shl_one w k h) (and_mask m k)

-- the digits below k stay below a larger bound
pub mod-lt-pow : (m k n : ℕ) → k ≤ n → m % 2 ^ k < 2 ^ n
mod-lt-pow m k n h = let l = mod-lt m (pow_pos k) in let u : 2 ^ k ≤ 2 ^ n = pow_mono h in omega arith
