-- Laws of lists of bits: the digits of a number, and the bits of bytes. Assumes nothing.
use mathlib.Core.Path.{◌≡◌, refl, sym, ap, ap₂, ◌∙◌}
use mathlib.Core.Bool.{Bool, true, false, ◌||◌, or-true, or-false}
use mathlib.Core.Logic.{◌⊎◌, inl, inr}
use mathlib.Core.List.{List, [], ◌∷◌, ◌++◌}
use Prim.Native.Nat.{ℕ, zero, suc, ◌+◌, ◌-◌, ◌*◌, ◌/◌, ◌%◌, ◌^◌, ◌<◌, ◌≤◌}
use native.Mathlib.Nat.{pow-suc}
use native.Mathlib.Omega.{arith}
use borrow.Author.Tests.{eqb-true, eqb-false}
use lib.Bits.{bit_and, bit_or, or_lt, and_mask}
use lib.Dec.{eqb}
use lib.ListN.{length, get_or, set, take, drop, drop_of_length-le, length-append, length-drop, length-set, length-take, replicate, replicate-append-replicate, take-append-drop, get_or-append}
use lib.Pow.{pow-lt, pow_mono}
use lib.Seq.{ext_get_or, get_or-append-add, get_or-set_same, get_or-set_other, set-append_left, take_at, drop_at, length-take-le}
use Rattle.ints.specs.Bits.{bit, digit, digits, number, bits_of, bytes_of, Bytes, some}
use Rattle.ints.proofs.Tests.{lt-or-le}
use Rattle.ints.proofs.Digits.{bit-zero, bit-suc, bit-none, bit-or-pow, shl_one}

-- ---- the digits of a number

pub digit-le : (t : Bool) → digit t ≤ 1
digit-le true = omega arith
digit-le false = omega arith

pub length_digits : (n m : ℕ) → length (digits n m) ≡ n
unfolding digits
length_digits zero m = refl
length_digits (suc n) m = ap suc (length_digits n (m / 2))

pub get_or-digits : (n m j : ℕ) → j < n → get_or (digits n m) j false ≡ bit m j
unfolding digits
get_or-digits zero m j h = absurd (omega arith)
get_or-digits (suc n) m zero h = sym (bit-zero m)
get_or-digits (suc n) m (suc j) h = get_or-digits n (m / 2) j (omega arith) ∙ sym (bit-suc m j)

-- one bit more
pub digits-or : (n m j : ℕ) → j < n → digits n (bit_or m (2 ^ j)) ≡ set (digits n m) j true
digits-or n m j h = ext_get_or false (digits n (bit_or m (2 ^ j))) (set (digits n m) j true) (len ∙ sym more) (λ i l. at i (omega (arith, len)))
  where
    len : length (digits n (bit_or m (2 ^ j))) ≡ n
    len = length_digits n (bit_or m (2 ^ j))

    more : length (set (digits n m) j true) ≡ n
    more = length-set (digits n m) j true ∙ length_digits n m

    go : (i : ℕ) → i < n → (t : Bool) → eqb i j ≡ t → (bit m i || t) ≡ get_or (set (digits n m) j true) i false
    go i l true e =
        let q : i ≡ j = eqb-true i j e in
        or-true (bit m i) ∙ sym (ap (λ (x : ℕ). get_or (set (digits n m) j true) x false) q ∙ get_or-set_same (digits n m) j true false (omega (arith, length_digits n m)))
    go i l false e =
        or-false (bit m i) ∙ sym (get_or-set_other (digits n m) j i true false (eqb-false i j e) ∙ get_or-digits n m i l)

    at : (i : ℕ) → i < n → get_or (digits n (bit_or m (2 ^ j))) i false ≡ get_or (set (digits n m) j true) i false
    at i l = get_or-digits n (bit_or m (2 ^ j)) i l ∙ bit-or-pow m j i ∙ go i l (eqb i j) refl

-- ---- the number of a list of bits

pub number_lt : (l : List Bool) → number l < 2 ^ length l
unfolding number
number_lt [] = omega arith
number_lt (b ∷ l) = let h = number_lt l in let d = digit-le b in let p = pow-suc 2 (length l) in omega arith

pub number_digits : (n m : ℕ) → m < 2 ^ n → number (digits n m) ≡ m
unfolding number digits
number_digits zero m h = omega arith
number_digits (suc n) m h = go (m % 2) refl (number_digits n (m / 2) (omega (arith, pow-suc 2 n)))
  where
    go : (r : ℕ) → m % 2 ≡ r → number (digits n (m / 2)) ≡ m / 2 → number (eqb (m % 2) 1 ∷ digits n (m / 2)) ≡ m
    go zero e ih = rw e (omega arith)
    go (suc zero) e ih = rw e (omega arith)
    go (suc (suc r)) e ih = absurd (omega arith)

pub digits_number : (l : List Bool) → digits (length l) (number l) ≡ l
unfolding number digits
digits_number [] = refl
digits_number (b ∷ l) = ap₂ ◌∷◌ (last b) (ap (digits (length l)) (half b) ∙ digits_number l)
  where
    last : (b : Bool) → eqb ((number l * 2 + digit b) % 2) 1 ≡ b
    last true = let a : (number l * 2 + 1) % 2 ≡ 1 = omega arith in rw a
    last false = let a : (number l * 2 + 0) % 2 ≡ 0 = omega arith in rw a

    half : (b : Bool) → (number l * 2 + digit b) / 2 ≡ number l
    half true = omega arith
    half false = omega arith

-- ---- the bits of bytes

pub length-bits : (l : List ℕ) → length (bits_of l) ≡ 8 * length l
unfolding bits_of
length-bits [] = refl
length-bits (m ∷ l) = length-append (digits 8 m) (bits_of l) ∙ omega (arith, length_digits 8 m, length-bits l)

-- bit k is bit k % 8 of byte k / 8
pub get_d_bits : (l : List ℕ) (k : ℕ) → get_or (bits_of l) k false ≡ bit (get_or l (k / 8) 0) (k % 8)
unfolding bits_of
get_d_bits [] k = sym (bit-none (k % 8))
get_d_bits (m ∷ l) k = go (get_d_bits l (k - 8)) (lt-or-le k 8)
  where
    len : length (digits 8 m) ≡ 8
    len = length_digits 8 m

    go : get_or (bits_of l) (k - 8) false ≡ bit (get_or l ((k - 8) / 8) 0) ((k - 8) % 8) → (k < 8) ⊎ (8 ≤ k)
        → get_or (digits 8 m ++ bits_of l) k false ≡ bit (get_or (m ∷ l) (k / 8) 0) (k % 8)
    go ih (inl g) =
        let q : k / 8 ≡ 0 = omega arith in
        let r : k % 8 ≡ k = omega arith in
        rw (q, r) (get_or-append (digits 8 m) (bits_of l) false k (omega (arith, len)) ∙ get_or-digits 8 m k g)
    go ih (inr g) =
        let q : k / 8 ≡ suc ((k - 8) / 8) = omega arith in
        let r : k % 8 ≡ (k - 8) % 8 = omega arith in
        let e : length (digits 8 m) + (k - 8) ≡ k = omega (arith, len) in
        rw (q, r) (ap (λ (x : ℕ). get_or (digits 8 m ++ bits_of l) x false) (sym e) ∙ get_or-append-add (digits 8 m) (bits_of l) (k - 8) false ∙ ih)

pub set_append_right : (l m : List Bool) (i : ℕ) (a : Bool) → set (l ++ m) (length l + i) a ≡ l ++ set m i a
set_append_right [] m i a = let e : 0 + i ≡ i = omega arith in rw e
set_append_right (x ∷ l) m i a =
    let e : suc (length l) + i ≡ suc (length l + i) = omega arith in
    rw e (ap (λ (k : List Bool). x ∷ k) (set_append_right l m i a))

-- a byte stored that has one bit more
pub bits-set : (l : List ℕ) (k v : ℕ) → k < 8 * length l → digits 8 v ≡ set (digits 8 (get_or l (k / 8) 0)) (k % 8) true
    → bits_of (set l (k / 8) v) ≡ set (bits_of l) k true
unfolding bits_of
bits-set [] k v h e = absurd (omega arith)
bits-set (m ∷ l) k v h e = go (λ g f. bits-set l (k - 8) v (omega arith) f) (lt-or-le k 8)
  where
    len : length (digits 8 m) ≡ 8
    len = length_digits 8 m

    go : (8 ≤ k → digits 8 v ≡ set (digits 8 (get_or l ((k - 8) / 8) 0)) ((k - 8) % 8) true → bits_of (set l ((k - 8) / 8) v) ≡ set (bits_of l) (k - 8) true)
        → (k < 8) ⊎ (8 ≤ k) → bits_of (set (m ∷ l) (k / 8) v) ≡ set (digits 8 m ++ bits_of l) k true
    go ih (inl g) =
        let q : k / 8 ≡ 0 = omega arith in
        let r : k % 8 ≡ k = omega arith in
        let d : digits 8 v ≡ set (digits 8 m) k true = rw (q, r) at e in
        rw q (ap (λ (x : List Bool). x ++ bits_of l) d ∙ sym (set-append_left (digits 8 m) (bits_of l) k true (omega (arith, len))))
    go ih (inr g) =
        let q : k / 8 ≡ suc ((k - 8) / 8) = omega arith in
        let r : k % 8 ≡ (k - 8) % 8 = omega arith in
        let a : length (digits 8 m) + (k - 8) ≡ k = omega (arith, len) in
        rw q
        (ap (λ (x : List Bool). digits 8 m ++ x) (ih g (rw (q, r) at e))
        ∙ sym (set_append_right (digits 8 m) (bits_of l) (k - 8) true)
        ∙ ap (λ (x : ℕ). set (digits 8 m ++ bits_of l) x true) a)

-- a byte stored among bytes
pub bytes-set : (l : List ℕ) (i v : ℕ) → Bytes l → v < 256 → Bytes (set l i v)
bytes-set [] i v b h k = b k
bytes-set (x ∷ l) zero v b h zero = h
bytes-set (x ∷ l) zero v b h (suc k) = b (suc k)
bytes-set (x ∷ l) (suc i) v b h zero = b 0
bytes-set (x ∷ l) (suc i) v b h (suc k) = bytes-set l i v (λ j. b (suc j)) h k

-- the machine's bit k, set and read
pub set-bit : (l : List ℕ) (k v : ℕ) → k < 8 * length l → Bytes l → v ≡ bit_or (get_or l (k / 8) 0) ((1 * 2 ^ (k % 8)) % 2 ^ 8)
    → (bits_of (set l (k / 8) v) ≡ set (bits_of l) k true) × Bytes (set l (k / 8) v)
set-bit l k v h b e =
    let p = shl_one 8 (k % 8) (omega arith) in
    let o : v ≡ bit_or (get_or l (k / 8) 0) (2 ^ (k % 8)) = e ∙ rw p in
    let f : v < 256 = rw o (or_lt 8 (get_or l (k / 8) 0) (2 ^ (k % 8)) (b (k / 8)) (pow-lt {i = k % 8} {j = 8} (omega arith))) in
    (bits-set l k v h (rw o (digits-or 8 (get_or l (k / 8) 0) (k % 8) (omega arith))), bytes-set l (k / 8) v b f)

pub read-bit : (l : List ℕ) (k : ℕ) → eqb (bit_and (get_or l (k / 8) 0 / 2 ^ (k % 8)) 1) 1 ≡ get_or (bits_of l) k false
read-bit l k = ap (λ (x : ℕ). eqb x 1) (and_mask (get_or l (k / 8) 0 / 2 ^ (k % 8)) 1) ∙ sym (get_d_bits l k)

-- ---- bits and bytes, there and back

pub length-bytes : (n : ℕ) (l : List Bool) → length (bytes_of n l) ≡ n
unfolding bytes_of
length-bytes zero l = refl
length-bytes (suc n) l = ap suc (length-bytes n (drop 8 l))

pub bytes_bits : (l : List ℕ) → Bytes l → bytes_of (length l) (bits_of l) ≡ l
unfolding bytes_of bits_of
bytes_bits [] h = refl
bytes_bits (m ∷ l) h =
    let t = take_at (digits 8 m) (bits_of l) 8 (length_digits 8 m) in
    let d = drop_at (digits 8 m) (bits_of l) 8 (length_digits 8 m) in
    ap₂ ◌∷◌ (ap number t ∙ number_digits 8 m (h 0)) (ap (bytes_of (length l)) d ∙ bytes_bits l (λ k. h (suc k)))

pub bits-bytes : (n : ℕ) (l : List Bool) → length l ≡ 8 * n → bits_of (bytes_of n l) ≡ l
unfolding bytes_of bits_of
bits-bytes zero [] h = refl
bits-bytes zero (b ∷ l) h = absurd (omega arith)
bits-bytes (suc n) l h =
    let t : length (take 8 l) ≡ 8 = length-take-le 8 l (omega arith) in
    let d : digits 8 (number (take 8 l)) ≡ take 8 l = ap (λ (k : ℕ). digits k (number (take 8 l))) (sym t) ∙ digits_number (take 8 l) in
    ap₂ ◌++◌ d (bits-bytes n (drop 8 l) (length-drop 8 l ∙ omega arith)) ∙ take-append-drop 8 l

pub bytes-of : (n : ℕ) (l : List Bool) → Bytes (bytes_of n l)
unfolding bytes_of
bytes-of zero l k = omega arith
bytes-of (suc n) l zero =
    let h = number_lt (take 8 l) in
    let m : 2 ^ length (take 8 l) ≤ 2 ^ 8 = pow_mono {i = length (take 8 l)} {j = 8} (omega (arith, length-take 8 l)) in
    omega arith
bytes-of (suc n) l (suc k) = bytes-of n (drop 8 l) k

-- ---- bytes that are all 0

pub bytes-zeros : (n : ℕ) → Bytes (replicate n 0)
bytes-zeros zero k = omega arith
bytes-zeros (suc n) zero = omega arith
bytes-zeros (suc n) (suc k) = bytes-zeros n k

pub bits-zeros : (n : ℕ) → bits_of (replicate n 0) ≡ replicate (8 * n) false
unfolding bits_of digits
bits-zeros zero = refl
bits-zeros (suc n) =
    let e : 8 * suc n ≡ 8 + 8 * n = omega arith in
    rw e (ap (λ (l : List Bool). replicate 8 false ++ l) (bits-zeros n) ∙ replicate-append-replicate 8 (8 * n) false)

-- ---- whether a 1 is among bits, as a loop asks it from bit j on

pub some-yes : (l : List Bool) (j : ℕ) → get_or l j false ≡ true → some (drop j l) ≡ true
unfolding some
some-yes [] zero e = cc
some-yes [] (suc j) e = cc
some-yes (false ∷ l) zero e = cc
some-yes (true ∷ l) zero e = refl
some-yes (b ∷ l) (suc j) e = some-yes l j e

pub some-no : (l : List Bool) (j : ℕ) → get_or l j false ≡ false → some (drop j l) ≡ some (drop (suc j) l)
unfolding some
some-no [] zero e = refl
some-no [] (suc j) e = refl
some-no (false ∷ l) zero e = refl
some-no (true ∷ l) zero e = cc
some-no (b ∷ l) (suc j) e = some-no l j e

pub some_end : (l : List Bool) (j : ℕ) → length l ≤ j → some (drop j l) ≡ false
unfolding some
some_end l j h = ap some (drop_of_length-le l h)

-- where none is, each bit is 0
pub none-at : (l : List Bool) (j : ℕ) → some l ≡ false → get_or l j false ≡ false
unfolding some
none-at [] j e = refl
none-at (false ∷ l) zero e = refl
none-at (false ∷ l) (suc j) e = none-at l j e
none-at (true ∷ l) j e = cc

pub none-zeros : (l : List Bool) → some l ≡ false → l ≡ replicate (length l) false
unfolding some
none-zeros [] e = refl
none-zeros (false ∷ l) e = ap (λ (k : List Bool). false ∷ k) (none-zeros l e)
none-zeros (true ∷ l) e = cc

pub zeros-none : (n : ℕ) → some (replicate n false) ≡ false
unfolding some
zeros-none zero = refl
zeros-none (suc n) = zeros-none n

pub none-if : (l : List Bool) → ((j : ℕ) → j < length l → get_or l j false ≡ false) → some l ≡ false
unfolding some
none-if [] h = refl
none-if (false ∷ l) h = none-if l (λ j m. h (suc j) (omega arith))
none-if (true ∷ l) h = h 0 (omega arith)
