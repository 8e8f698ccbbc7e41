-- Laws of masks: what their points are, low to high and high to low, the first of them, their number, and where there is none. Assumes nothing.
use mathlib.Core.Path.{◌≡◌, refl, sym, ap, ap₂, ◌∙◌}
use mathlib.Core.Bool.{Bool, true, false, not, ◌&&◌, and-true, and-false}
use mathlib.Core.List.{List, [], ◌∷◌, ◌++◌, reverse, reverse-append}
use mathlib.Core.Logic.{◌⊎◌, inl, inr}
use Prim.Native.Nat.{ℕ, zero, suc, ◌+◌, ◌-◌, ◌*◌, ◌/◌, ◌%◌, ◌^◌, ◌<◌, ◌≤◌}
use native.Mathlib.Nat.{eq-or-lt_of_le, pow-suc}
use native.Mathlib.Omega.{arith}
use borrow.Author.Tests.{eq-eqb, ne_eqb}
use lib.Count.{count_trailing_zeros, under, count_leading_zeros, leading_top, ones, ones_cat}
use lib.Dec.{eqb}
use lib.ListN.{length, length-reverse}
use lib.Pow.{pow_mono, pow_pos, shr_lt}
use Rattle.ints.specs.Sums.{all}
use Rattle.ints.specs.Bits.{bit}
use Rattle.ints.specs.Masks.{IsMask, keep, those, those_down}
use Rattle.ints.proofs.Tests.{lt-or-le}
use Rattle.ints.proofs.Digits.{bit-zero, bit-suc, bit-shr, bit-ext, bit-lt, bit-none, bit-top, bit_below, bit_le, bit-clear, shl_one}

-- ---- lists of points

pub those-ext : (n k : ℕ) (f g : ℕ → Bool) → ((i : ℕ) → k ≤ i → i < k + n → f i ≡ g i) → those n k f ≡ those n k g
unfolding those
those-ext zero k f g h = refl
those-ext (suc n) k f g h = rw (h k (omega arith) (omega arith), those-ext n (suc k) f g (λ i l u. h i (omega arith) (omega arith)))

pub down-ext : (n : ℕ) (f g : ℕ → Bool) → ((i : ℕ) → i < n → f i ≡ g i) → those_down n f ≡ those_down n g
unfolding those_down
down-ext zero f g h = refl
down-ext (suc n) f g h = rw (h n (omega arith), down-ext n f g (λ i l. h i (omega arith)))

-- a mask's points are those of which f holds
pub those-mask : (n : ℕ) (f : ℕ → Bool) (m : ℕ) → IsMask f m → those n 0 (bit m) ≡ those n 0 f
those-mask n f m g = those-ext n 0 (bit m) f (λ i l u. g i)

pub down-mask : (n : ℕ) (f : ℕ → Bool) (m : ℕ) → IsMask f m → those_down n (bit m) ≡ those_down n f
down-mask n f m g = down-ext n (bit m) f (λ i l. g i)

-- no points
pub those-none : (n k : ℕ) (f : ℕ → Bool) → ((i : ℕ) → k ≤ i → i < k + n → f i ≡ false) → those n k f ≡ []
unfolding those
those-none zero k f h = refl
those-none (suc n) k f h = rw (h k (omega arith) (omega arith)) (those-none n (suc k) f (λ i l u. h i (omega arith) (omega arith)))

pub down-none : (n : ℕ) (f : ℕ → Bool) → ((i : ℕ) → i < n → f i ≡ false) → those_down n f ≡ []
unfolding those_down
down-none zero f h = refl
down-none (suc n) f h = rw (h n (omega arith)) (down-none n f (λ i l. h i (omega arith)))

pub those-zero : (n : ℕ) → those n 0 (bit 0) ≡ []
those-zero n = those-none n 0 (bit 0) (λ i l u. bit-none i)

pub down-zero : (n : ℕ) → those_down n (bit 0) ≡ []
down-zero n = down-none n (bit 0) (λ i l. bit-none i)

keep_append : (t : Bool) (k : ℕ) (l m : List ℕ) → keep t k (l ++ m) ≡ keep t k l ++ m
keep_append true k l m = refl
keep_append false k l m = refl

pub those-append : (n m k : ℕ) (f : ℕ → Bool) → those (n + m) k f ≡ those n k f ++ those m (k + n) f
unfolding those
those-append zero m k f = let e : 0 + m ≡ m = omega arith in let z : k + 0 ≡ k = omega arith in rw (e, z)
those-append (suc n) m k f =
    let e : suc n + m ≡ suc (n + m) = omega arith in
    let s : suc k + n ≡ k + suc n = omega arith in
    rw e (ap (keep (f k) k) (those-append n m (suc k) f ∙ rw s) ∙ keep_append (f k) k (those n (suc k) f) (those m (k + suc n) f))

-- one point more at the end
pub those-last : (n : ℕ) (f : ℕ → Bool) → those (suc n) 0 f ≡ those n 0 f ++ keep (f n) n []
unfolding those
those-last n f =
    let e : n + 1 ≡ suc n = omega arith in
    let z : 0 + n ≡ n = omega arith in
    ap (λ (x : ℕ). those x 0 f) (sym e) ∙ those-append n 1 0 f ∙ rw z

-- high to low is low to high turned around
pub down-reverse : (n : ℕ) (f : ℕ → Bool) → those_down n f ≡ reverse (those n 0 f)
unfolding those_down those
down-reverse zero f = refl
down-reverse (suc n) f = ap (keep (f n) n) (down-reverse n f) ∙ go (f n) ∙ sym (ap reverse (those-last n f))
  where
    go : (t : Bool) → keep t n (reverse (those n 0 f)) ≡ reverse (those n 0 f ++ keep t n [])
    go true = sym (reverse-append (those n 0 f) (n ∷ []))
    go false = sym (reverse-append (those n 0 f) [])

pub length-down : (n : ℕ) (f : ℕ → Bool) → length (those_down n f) ≡ length (those n 0 f)
length-down n f = ap length (down-reverse n f) ∙ length-reverse (those n 0 f)

-- at most n points
pub length-those-le : (n k : ℕ) (f : ℕ → Bool) → length (those n k f) ≤ n
unfolding those
length-those-le zero k f = omega arith
length-those-le (suc n) k f = go (length-those-le n (suc k) f) (f k)
  where
    go : length (those n (suc k) f) ≤ n → (t : Bool) → length (keep t k (those n (suc k) f)) ≤ suc n
    go h true = omega arith
    go h false = omega arith

-- ---- what a mask is

pub mask-unique : (f : ℕ → Bool) (a b : ℕ) → IsMask f a → IsMask f b → a ≡ b
mask-unique f a b g h = bit-ext a b (λ i. g i ∙ sym (h i))

-- ---- the number of points

ones-zero : ones 0 ≡ 0
unfolding ones
ones-zero = refl

ones-one : ones 1 ≡ 1
unfolding ones
ones-one = refl

pub ones-down : (n m : ℕ) → m < 2 ^ n → ones m ≡ length (those_down n (bit m))
unfolding those_down
ones-down zero m h = let z : m ≡ 0 = omega arith in rw z ones-zero
ones-down (suc n) m h = go (ones-down n m) (ones-down n (m - 2 ^ n)) (lt-or-le m (2 ^ n))
  where
    go : (m < 2 ^ n → ones m ≡ length (those_down n (bit m))) → (m - 2 ^ n < 2 ^ n → ones (m - 2 ^ n) ≡ length (those_down n (bit (m - 2 ^ n))))
        → (m < 2 ^ n) ⊎ (2 ^ n ≤ m) → ones m ≡ length (keep (bit m n) n (those_down n (bit m)))
    go a b (inl l) = rw (bit-lt m n n l (omega arith)) (a l)
    go a b (inr l) =
        let d = pow-suc 2 n in
        let e : 1 * 2 ^ n + (m - 2 ^ n) ≡ m = omega arith in
        let s : m - 2 ^ n < 2 ^ n = omega arith in
        let t = bit-top m n l h in
        let same : those_down n (bit m) ≡ those_down n (bit (m - 2 ^ n)) =
        down-ext n (bit m) (bit (m - 2 ^ n)) (λ i q. sym (bit-clear m n t i ∙ rw (ne_eqb i n (λ z. omega arith)) (and-true (bit m i)))) in
        rw (t, same) (ap ones (sym e) ∙ ones_cat n 1 (m - 2 ^ n) s ∙ rw (ones-one, b s) (omega arith))

pub ones-those : (n m : ℕ) → m < 2 ^ n → ones m ≡ length (those n 0 (bit m))
ones-those n m h = ones-down n m h ∙ length-down n (bit m)

-- ---- the first point

-- q is the first of the points that a loop walks over in the mask m, of n digits in a machine's w; and the mask without it
pub record First (w n m q : ℕ) (points : ℕ → List ℕ) : Type 0 where
  pub below : q < n
  pub held : bit m q ≡ true
  pub power : 2 ^ q ≤ m
  pub some : 0 < (1 * 2 ^ q) % 2 ^ w
  pub within : (1 * 2 ^ q) % 2 ^ w ≤ m
  pub parts : points m ≡ q ∷ points (m - (1 * 2 ^ q) % 2 ^ w)

first : (w n m q : ℕ) (points : ℕ → List ℕ) → n ≤ w → m < 2 ^ n → bit m q ≡ true → points m ≡ q ∷ points (m - 2 ^ q) → First w n m q points
first w n m q points nw h b p =
    let l = bit_below m n q b h in
    let s = shl_one w q (omega arith) in
    let g = bit_le m q b in
    record { below = l; held = b; power = g; some = rw s (pow_pos q); within = rw s g; parts = rw s p }

-- a list that begins with q, and the list without q
those-first : (n k q : ℕ) (f g : ℕ → Bool) → k ≤ q → q < k + n → f q ≡ true → ((i : ℕ) → i < q → f i ≡ false)
    → ((i : ℕ) → g i ≡ (f i && not (eqb i q))) → those n k f ≡ q ∷ those n k g
unfolding those
those-first zero k q f g lo hi t z e = absurd (omega arith)
those-first (suc n) k q f g lo hi t z e = go (λ l. those-first n (suc k) q f g l (omega arith) t z e) (eq-or-lt_of_le lo)
  where
    go : (k < q → those n (suc k) f ≡ q ∷ those n (suc k) g) → (k ≡ q) ⊎ (k < q)
        → keep (f k) k (those n (suc k) f) ≡ q ∷ keep (g k) k (those n (suc k) g)
    go ih (inl s) =
        let a : f k ≡ true = ap f s ∙ t in
        let b : g k ≡ false = e k ∙ rw (eq-eqb k q s) (and-false (f k)) in
        rw (a, b) (ap₂ ◌∷◌ s (those-ext n (suc k) f g (λ i l u. sym (e i ∙ rw (ne_eqb i q (λ x. omega arith)) (and-true (f i))))))
    go ih (inr l) = let a = z k l in let b : g k ≡ false = e k ∙ rw a in rw (a, b) (ih l)

down-first : (n q : ℕ) (f g : ℕ → Bool) → q < n → f q ≡ true → ((i : ℕ) → q < i → f i ≡ false)
    → ((i : ℕ) → g i ≡ (f i && not (eqb i q))) → those_down n f ≡ q ∷ those_down n g
unfolding those_down
down-first zero q f g hi t z e = absurd (omega arith)
down-first (suc n) q f g hi t z e = go (λ l. down-first n q f g l t z e) (eq-or-lt_of_le {n = q} {m = n} (omega arith))
  where
    go : (q < n → those_down n f ≡ q ∷ those_down n g) → (q ≡ n) ⊎ (q < n) → keep (f n) n (those_down n f) ≡ q ∷ keep (g n) n (those_down n g)
    go ih (inl s) =
        let a : f n ≡ true = ap f (sym s) ∙ t in
        let b : g n ≡ false = e n ∙ rw (eq-eqb n q (sym s)) (and-false (f n)) in
        rw (a, b) (ap₂ ◌∷◌ (sym s) (down-ext n f g (λ i l. sym (e i ∙ rw (ne_eqb i q (λ x. omega arith)) (and-true (f i))))))
    go ih (inr l) = let a = z n l in let b : g n ≡ false = e n ∙ rw a in rw (a, b) (ih l)

-- as many 0s as `count_trailing_zeros` says, then a 1
trailing : (w m : ℕ) → 0 < m → m < 2 ^ w → (bit m (count_trailing_zeros w m) ≡ true) × ((i : ℕ) → i < count_trailing_zeros w m → bit m i ≡ false)
unfolding count_trailing_zeros
trailing zero m lo hi = absurd (omega arith)
trailing (suc w) m lo hi = go (λ q. trailing w (m / 2) q (omega (arith, pow-suc 2 w))) (m % 2) refl
  where
    go : (0 < m / 2 → (bit (m / 2) (count_trailing_zeros w (m / 2)) ≡ true) × ((i : ℕ) → i < count_trailing_zeros w (m / 2) → bit (m / 2) i ≡ false))
        → (r : ℕ) → m % 2 ≡ r
        → (bit m (under (m % 2) (count_trailing_zeros w (m / 2))) ≡ true) × ((i : ℕ) → i < under (m % 2) (count_trailing_zeros w (m / 2)) → bit m i ≡ false)
    go ih zero e =
        let h = ih (omega arith) in
        rw e (bit-suc m (count_trailing_zeros w (m / 2)) ∙ h.0, below h.1)
      where
        below : ((i : ℕ) → i < count_trailing_zeros w (m / 2) → bit (m / 2) i ≡ false) → (i : ℕ) → i < suc (count_trailing_zeros w (m / 2)) → bit m i ≡ false
        below h zero l = bit-zero m ∙ rw e
        below h (suc i) l = bit-suc m i ∙ h i (omega arith)
    go ih (suc zero) e = rw e (bit-zero m ∙ rw e, λ i l. absurd (omega arith))
    go ih (suc (suc r)) e = absurd (omega arith)

pub lowest : (w n m q : ℕ) → n ≤ w → (m ≡ 0 → ⊥) → m < 2 ^ n → q ≡ count_trailing_zeros w m → First w n m q (λ x. those n 0 (bit x))
lowest w n m q nw some h e =
    let u : 2 ^ n ≤ 2 ^ w = pow_mono nw in
    let t = trailing w m (omega (arith, some)) (omega arith) in
    let b : bit m q ≡ true = rw e t.0 in
    let l = bit_below m n q b h in
    first w n m q (λ x. those n 0 (bit x)) nw h b
    (those-first n 0 q (bit m) (bit (m - 2 ^ q)) (omega arith) (omega arith) b (λ i l. t.1 i (omega arith)) (bit-clear m q b))

-- the highest point of a mask, by the 0s above it
pub record Leading (w m : ℕ) : Type 0 where
  pub some : count_leading_zeros w m ≤ w - 1
  pub power : 2 ^ (w - 1 - count_leading_zeros w m) ≤ m
  pub above : m < 2 ^ suc (w - 1 - count_leading_zeros w m)

pub leading : (w n m : ℕ) → n ≤ w → (m ≡ 0 → ⊥) → m < 2 ^ n → Leading w m
leading w n m nw some h =
    let u : 2 ^ n ≤ 2 ^ w = pow_mono nw in
    let t = leading_top w m (omega (arith, some)) (omega arith) in
    let j : w - 1 - count_leading_zeros w m ≡ t.0 = omega (arith, t.1) in
    record { some = omega (arith, t.1); power = rw j t.2; above = rw j t.3 }

pub highest : (w n m q : ℕ) → n ≤ w → (m ≡ 0 → ⊥) → m < 2 ^ n → q ≡ w - 1 - count_leading_zeros w m → First w n m q (λ x. those_down n (bit x))
highest w n m q nw some h e =
    let t = leading w n m nw some h in
    let hi : m < 2 ^ suc q = rw e t.above in
    let b : bit m q ≡ true = bit-top m q (rw e t.power) hi in
    first w n m q (λ x. those_down n (bit x)) nw h b
    (down-first n q (bit m) (bit (m - 2 ^ q)) (bit_below m n q b h) b (λ i l. bit-lt m (suc q) i hi l) (bit-clear m q b))

-- ---- no point from k on

-- a number is 0 where none of its digits is 1
zero-none : (n m : ℕ) → m < 2 ^ n → eqb m 0 ≡ all (λ i. not (bit m i)) n
unfolding all
zero-none zero m h = eq-eqb m 0 (omega arith)
zero-none (suc n) m h = go (zero-none n m) (lt-or-le m (2 ^ n))
  where
    go : (m < 2 ^ n → eqb m 0 ≡ all (λ i. not (bit m i)) n) → (m < 2 ^ n) ⊎ (2 ^ n ≤ m) → eqb m 0 ≡ (all (λ i. not (bit m i)) n && not (bit m n))
    go ih (inl l) = rw (bit-lt m n n l (omega arith)) (ih l ∙ sym (and-true (all (λ i. not (bit m i)) n)))
    go ih (inr l) =
        rw (bit-top m n l h) (ne_eqb m 0 (λ z. omega (arith, pow_pos n)) ∙ sym (and-false (all (λ i. not (bit m i)) n)))

pub all-ext : (n : ℕ) (f g : ℕ → Bool) → ((i : ℕ) → f i ≡ g i) → all f n ≡ all g n
unfolding all
all-ext zero f g h = refl
all-ext (suc n) f g h = rw (h n, all-ext n f g h)

-- a mask shifted down by k is 0 where f holds of none of the n from k on
pub none_from : (k n : ℕ) (f : ℕ → Bool) (m : ℕ) → IsMask f m → m < 2 ^ (k + n) → eqb (m / 2 ^ k) 0 ≡ all (λ i. not (f (k + i))) n
none_from k n f m g h =
    let e : n + k ≡ k + n = omega arith in
    zero-none n (m / 2 ^ k) (shr_lt n k (rw e h))
    ∙ all-ext n (λ i. not (bit (m / 2 ^ k) i)) (λ i. not (f (k + i))) (λ i. ap not (bit-shr m k i ∙ g (k + i)))
