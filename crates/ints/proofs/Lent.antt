-- Laws of lists in lent memory: which bytes a store changes, and what a window holds once all records were offered to it. Assumes nothing.
use mathlib.Core.Path.{◌≡◌, refl, sym, ap, ◌∙◌}
use mathlib.Core.Bool.{Bool, true, false, cond, ◌&&◌}
use mathlib.Core.List.{List, [], ◌∷◌, ◌++◌, map, flatten, append_assoc, append_cancel_left, append-nil}
use mathlib.Core.Logic.{◌⊎◌, inl, inr}
use Prim.Native.Nat.{ℕ, zero, suc, ◌+◌, ◌-◌, ◌*◌, ◌/◌, ◌<◌, ◌≤◌}
use native.Mathlib.Nat.{add-mul, div-mul-le_self, div_self, eq-or-lt_of_le, le-div_iff_mul-le, mul-le-mul_right, suc-mul, zero-mul}
use native.Mathlib.Numerals.{add-one}
use native.Mathlib.Omega.{arith}
use borrow.Author.Tests.{le-leb, lt-leb, lt-ltb, le-ltb}
use lib.Dec.{leb, ltb}
use lib.ListN.{length, get_or, set, take, drop, length-append, take-append-drop}
use lib.Seq.{drop-cons, sets, sets-eq, length-sets, set-set, set_comm, take_at, take-set-le, take-add, take_all, drop-append-add, drop-drop, length-take-le}
use Rattle.ints.specs.Lent.{Records, store, written}

-- ---- records

pub records-map : {A : Type 0} (w : ℕ) (f : A → List ℕ) (xs : List A) → ((x : A) → length (f x) ≡ w) → Records w (map f xs)
records-map w f [] h = tt
records-map w f (x ∷ xs) h = (h x, records-map w f xs h)

-- ---- a run of bytes

-- a loop's turn: one byte stored, the others still to come
pub sets-step : (o : List ℕ) (at x : ℕ) (xs : List ℕ) → sets (set o at x) (at + 1) xs ≡ sets o at (x ∷ xs)
sets-step o at x xs = rw add-one

-- the same where byte i of xs is stored
pub sets-next : (o : List ℕ) (at i : ℕ) (xs : List ℕ) → i < length xs
    → sets (set o (at + i) (get_or xs i 0)) (at + (i + 1)) (drop (i + 1) xs) ≡ sets o (at + i) (drop i xs)
sets-next o at i xs h =
    let q : at + (i + 1) ≡ at + i + 1 = omega arith in
    let d : drop i xs ≡ get_or xs i 0 ∷ drop (i + 1) xs = rw add-one (drop-cons xs i 0 h) in
    rw q (sets-step o (at + i) (get_or xs i 0) (drop (i + 1) xs) ∙ ap (sets o (at + i)) (sym d))

-- a byte stored before a run of others, and one of the run stored anew
set-before-sets : (o : List ℕ) (at : ℕ) (xs : List ℕ) (i v : ℕ) → i < at → set (sets o at xs) i v ≡ sets (set o i v) at xs
set-before-sets o at [] i v h = refl
set-before-sets o at (x ∷ xs) i v h =
    set-before-sets (set o at x) (suc at) xs i v (omega arith)
    ∙ ap (λ (l : List ℕ). sets l (suc at) xs) (set_comm o at i x v (λ e. omega arith))

pub set-sets : (o : List ℕ) (at : ℕ) (xs : List ℕ) (k v : ℕ) → k < length xs → set (sets o at xs) (at + k) v ≡ sets o at (set xs k v)
set-sets o at [] k v h = absurd (omega arith)
set-sets o at (x ∷ xs) zero v h =
    let z : at + 0 ≡ at = omega arith in
    rw z (set-before-sets (set o at x) (suc at) xs at v (omega arith) ∙ ap (λ (l : List ℕ). sets l (suc at) xs) (set-set o at x v))
set-sets o at (x ∷ xs) (suc k) v h =
    let q : at + suc k ≡ suc at + k = omega arith in
    rw q (set-sets (set o at x) (suc at) xs k v (omega arith))

-- ---- one record

pub length-store : (w : ℕ) (o : List ℕ) (from n : ℕ) (e : List ℕ) → length (store w o from n e) ≡ length o
unfolding store
length-store w o from n e = go (leb from n && ltb (n - from) (length o / w))
  where
    go : (t : Bool) → length (cond t (sets o ((n - from) * w) e) o) ≡ length o
    go true = length-sets o ((n - from) * w) e
    go false = refl

-- a record in the window, past it, and before it
pub store_in : (w : ℕ) (o : List ℕ) (from n : ℕ) (e : List ℕ) → from ≤ n → n - from < length o / w → store w o from n e ≡ sets o ((n - from) * w) e
unfolding store
store_in w o from n e h l = rw (le-leb from n h, lt-ltb (n - from) (length o / w) l)

pub store-past : (w : ℕ) (o : List ℕ) (from n : ℕ) (e : List ℕ) → length o / w ≤ n - from → store w o from n e ≡ o
unfolding store
store-past w o from n e l = rw (le-ltb (n - from) (length o / w) l) (go (leb from n))
  where
    go : (t : Bool) → cond (t && false) (sets o ((n - from) * w) e) o ≡ o
    go true = refl
    go false = refl

pub store-before : (w : ℕ) (o : List ℕ) (from n : ℕ) (e : List ℕ) → n < from → store w o from n e ≡ o
unfolding store
store-before w o from n e h = rw (lt-leb from n h)

-- ---- all records

pub length-written : (w : ℕ) (o : List ℕ) (from n : ℕ) (es : List (List ℕ)) → length (written w o from n es) ≡ length o
unfolding written
length-written w o from n [] = refl
length-written w o from n (e ∷ es) = length-written w (store w o from n e) from (suc n) es ∙ length-store w o from n e

pub written-append : (w : ℕ) (o : List ℕ) (from n : ℕ) (es fs : List (List ℕ))
    → written w o from n (es ++ fs) ≡ written w (written w o from n es) from (n + length es) fs
unfolding written
written-append w o from n [] fs = let z : n + 0 ≡ n = omega arith in rw z
written-append w o from n (e ∷ es) fs =
    let q : suc n + length es ≡ n + suc (length es) = omega arith in
    written-append w (store w o from n e) from (suc n) es fs ∙ rw q

-- records that all lie before the window, or past it
pub written-before : (w : ℕ) (o : List ℕ) (from n : ℕ) (es : List (List ℕ)) → n + length es ≤ from → written w o from n es ≡ o
unfolding written
written-before w o from n [] h = refl
written-before w o from n (e ∷ es) h = rw (store-before w o from n e (omega arith)) (written-before w o from (suc n) es (omega arith))

pub written-past : (w : ℕ) (o : List ℕ) (from n : ℕ) (es : List (List ℕ)) → length o / w ≤ n - from → written w o from n es ≡ o
unfolding written
written-past w o from n [] l = refl
written-past w o from n (e ∷ es) l = rw (store-past w o from n e l) (written-past w o from (suc n) es (omega arith))

-- ---- the whole list

-- a slot lies wholly in o where its end does
slot-in : (w k : ℕ) (o : List ℕ) → 0 < w → suc k * w ≤ length o → k < length o / w
slot-in w k o p h = (le-div_iff_mul-le {k = w} {x = suc k} {y = length o} p).1 h

written_from : (w : ℕ) (o : List ℕ) (n : ℕ) (es : List (List ℕ)) → 0 < w → Records w es → (n + length es) * w ≤ length o
    → written w o 0 n es ≡ take (n * w) o ++ flatten es ++ drop ((n + length es) * w) o
unfolding written flatten
written_from w o n [] p r h = let z : n + 0 ≡ n = omega arith in rw (z, append-nil) (sym (take-append-drop (n * w) o))
written_from w o n (e ∷ es) p r h =
    let q : suc n + length es ≡ n + suc (length es) = omega arith in
    let c = suc-mul n w in
    let m : suc n * w ≤ (n + suc (length es)) * w = mul-le-mul_right w (omega arith) in
    let z : n - 0 ≡ n = omega arith in
    let a = take (n * w) o ++ e in
    let b = drop (n * w + w) o in
    let s : store w o 0 n e ≡ a ++ b =
    store_in w o 0 n e (omega arith) (rw z (slot-in w n o p (omega arith)))
    ∙ rw z (sets-eq e o (n * w) (omega (arith, r.0)) ∙ rw r.0) in
    let la : length a ≡ suc n * w = length-append (take (n * w) o) e ∙ omega (arith, length-take-le (n * w) o (omega arith), r.0) in
    let lb : length (a ++ b) ≡ length o = ap length (sym s) ∙ length-store w o 0 n e in
    let t : (suc n + length es) * w ≡ length a + length es * w = add-mul (suc n) (length es) w ∙ omega (arith, la) in
    let u : n * w + w + length es * w ≡ (n + suc (length es)) * w = sym (ap (λ (x : ℕ). x * w) (sym q) ∙ t ∙ omega (arith, la, c)) in
    rw s
    (written_from w (a ++ b) (suc n) es p r.1 (rw (lb, q) h)
    ∙ rw (take_at a b (suc n * w) la, t, drop-append-add a b (length es * w), drop-drop, u) (simp append_assoc))

-- where everything fits, the records stand one after another, and the other bytes are as before
pub written-list : (w : ℕ) (o : List ℕ) (es : List (List ℕ)) → 0 < w → Records w es → length es * w ≤ length o
    → written w o 0 0 es ≡ flatten es ++ drop (length es * w) o
written-list w o es p r h =
    let z : 0 + length es ≡ length es = omega arith in
    let y : 0 * w ≡ 0 = omega arith in
    let s = written_from w o 0 es p r (rw z h) in
    rw (z, y) at s

-- ---- one slot

take-sets : (j : ℕ) (o : List ℕ) (at : ℕ) (xs : List ℕ) → j ≤ at → take j (sets o at xs) ≡ take j o
take-sets j o at [] h = refl
take-sets j o at (x ∷ xs) h = take-sets j (set o at x) (suc at) xs (omega arith) ∙ take-set-le j o at x h

take-written : (j w : ℕ) (o : List ℕ) (from n : ℕ) (es : List (List ℕ)) → j ≤ (n - from) * w → take j (written w o from n es) ≡ take j o
unfolding written store
take-written j w o from n [] h = refl
take-written j w o from n (e ∷ es) h =
    let m : (n - from) * w ≤ (suc n - from) * w = mul-le-mul_right w (omega arith) in
    take-written j w (store w o from n e) from (suc n) es (omega arith) ∙ go (leb from n && ltb (n - from) (length o / w))
  where
    go : (t : Bool) → take j (cond t (sets o ((n - from) * w) e) o) ≡ take j o
    go true = take-sets j o ((n - from) * w) e h
    go false = refl

-- a whole slot of the window holds the record with its number
pub written-slot : (w : ℕ) (o : List ℕ) (from n : ℕ) (es : List (List ℕ)) (k : ℕ) → Records w es
    → from ≤ k → k - from < length o / w → n ≤ k → k < n + length es
    → take w (drop ((k - from) * w) (written w o from n es)) ≡ get_or es (k - n) []
unfolding written
written-slot w o from n [] k r lo hi a b = absurd (omega arith)
written-slot w o from n (e ∷ es) k r lo hi a b =
    go (λ l. written-slot w (store w o from n e) from (suc n) es k r.1 lo (rw (length-store w o from n e) hi) l (omega arith)) (eq-or-lt_of_le a)
  where
    go : (n < k → take w (drop ((k - from) * w) (written w (store w o from n e) from (suc n) es)) ≡ get_or es (k - suc n) []) → (n ≡ k) ⊎ (n < k)
        → take w (drop ((k - from) * w) (written w (store w o from n e) from (suc n) es)) ≡ get_or (e ∷ es) (k - n) []
    go ih (inr l) = let q : k - n ≡ suc (k - suc n) = omega arith in rw q (ih l)
    go ih (inl q) =
        let z : k - n ≡ 0 = omega arith in
        let at = (k - from) * w in
        let c : (suc n - from) * w ≡ at + w = ap (λ (x : ℕ). x * w) (omega arith) ∙ suc-mul (k - from) w in
        let m : suc (k - from) * w ≤ length o / w * w = mul-le-mul_right w hi in
        let f : at + w ≤ length o = omega (arith, suc-mul (k - from) w, div-mul-le_self (length o) w) in
        let p = take at o ++ e in
        let y : n - from ≡ k - from = omega arith in
        let s : store w o from n e ≡ p ++ drop (at + w) o = store_in w o from n e (omega arith) (omega arith) ∙ rw y (sets-eq e o at (rw r.0 f) ∙ rw r.0) in
        let lp : length p ≡ at + w = length-append (take at o) e ∙ omega (arith, length-take-le at o (omega arith), r.0) in
        let new = written w (store w o from n e) from (suc n) es in
        let t : take (at + w) new ≡ p = take-written (at + w) w (store w o from n e) from (suc n) es (omega arith) ∙ rw s (take_at p (drop (at + w) o) (at + w) lp) in
        let u : take at new ≡ take at o = take-written at w o from n (e ∷ es) (rw y (omega arith)) in
        rw z (append_cancel_left (take at o) (take w (drop at new)) e (ap (λ (l : List ℕ). l ++ take w (drop at new)) (sym u) ∙ sym (take-add at w new) ∙ t))

-- ---- a window of one record

pub window-record : (w : ℕ) (o : List ℕ) (k : ℕ) (es : List (List ℕ)) → 0 < w → length o ≡ w → Records w es → k < length es
    → written w o k 0 es ≡ get_or es k []
window-record w o k es p h r l =
    let z : (k - k) * w ≡ 0 = ap (λ (x : ℕ). x * w) (omega arith) ∙ zero-mul w in
    let y : k - 0 ≡ k = omega arith in
    let d : length o / w ≡ 1 = ap (λ (x : ℕ). x / w) h ∙ div_self p in
    let s = written-slot w o k 0 es k r (omega arith) (omega arith) (omega arith) (omega arith) in
    let t : take w (written w o k 0 es) ≡ written w o k 0 es = take_all w (written w o k 0 es) (omega (arith, length-written w o k 0 es)) in
    sym t ∙ (rw (z, y) at s)
