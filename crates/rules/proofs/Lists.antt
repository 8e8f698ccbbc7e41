-- The lists that the order is made of: what stands in them, and that nothing stands in them twice.
-- Assumes nothing.
use mathlib.Core.Path.{◌≡◌, refl, sym, ap, subst, ◌∙◌}
use mathlib.Core.Logic.{◌≢◌, ◌⊎◌, ◌↔◌, inl, inr}
use mathlib.Core.Bool.{Bool, true, false, cond}
use mathlib.Core.List.{List, [], ◌∷◌, ◌++◌, map}
use Prim.Native.Nat.{ℕ, zero, suc, ◌≤◌, ◌<◌}
use native.Mathlib.Omega.{arith}
use native.Mathlib.Decide.{ℕ_discrete}
use borrow.Author.Tests.{eqb-true, eq-eqb}
use lib.Dec.{T}
use lib.IntN.{ℤ, pos, negsuc}
use lib.ListN.{length}
use Rattle.ints.proofs.Tests.{and_left, and_right, and_both, by_cond}
use Rattle.position.specs.Step.{can_step, stepped}
use Rattle.rules.specs.Ends.{down, up, after, same_entry, same_board, among, unseen, join, or_else, In, Once}

abbrev pub Boards : Type 0
Boards = List (List ℤ)

-- ---- two lists, one after the other

pub in_left : (e : List ℤ) (l r : Boards) → In e l → In e (l ++ r)
in_left e [] r m = absurd m
in_left e (c ∷ l) r (inl q) = inl q
in_left e (c ∷ l) r (inr m) = inr (in_left e l r m)

pub in_right : (e : List ℤ) (l r : Boards) → In e r → In e (l ++ r)
in_right e [] r m = m
in_right e (c ∷ l) r m = inr (in_right e l r m)

pub in-cases : (e : List ℤ) (l r : Boards) → In e (l ++ r) → In e l ⊎ In e r
in-cases e [] r m = inr m
in-cases e (c ∷ l) r (inl q) = inl (inl q)
in-cases e (c ∷ l) r (inr m) = elim (in-cases e l r m) [ inl n ↦ inl (inr n) | inr n ↦ inr n ]

pub once-append : (l r : Boards) → Once l → Once r → ((e : List ℤ) → In e l → In e r → ⊥) → Once (l ++ r)
once-append [] r h k n = k
once-append (c ∷ l) r h k n = (
  (λ m. elim (in-cases c l r m) [ inl a ↦ h.0 a | inr a ↦ n c (inl refl) a ]),
  once-append l r h.1 k (λ e a z. n e (inr a) z),
)

pub once-only : (b : List ℤ) → Once (b ∷ [])
once-only b = ((λ m. m), tt)

-- ---- a walk over the origins 1 to n, in either direction

pub data Way : Type 0 where
  rising : Way
  falling : Way

abbrev pub walk : Way → ℕ → (ℕ → Boards) → Boards
walk rising n f = up n f
walk falling n f = down n f

-- the walk over none, and over one origin more
in-nothing : (w : Way) (e : List ℤ) (f : ℕ → Boards) → In e (walk w 0 f) → ⊥
in-nothing rising e f m = m
in-nothing falling e f m = m

in-turn : (w : Way) (e : List ℤ) (n : ℕ) (f : ℕ → Boards) → In e (walk w (suc n) f) → In e (walk w n f) ⊎ In e (f (suc n))
in-turn rising e n f m = in-cases e (up n f) (f (suc n)) m
in-turn falling e n f m = elim (in-cases e (f (suc n)) (down n f) m) [ inl k ↦ inr k | inr k ↦ inl k ]

turn_in : (w : Way) (e : List ℤ) (n : ℕ) (f : ℕ → Boards) → In e (walk w n f) ⊎ In e (f (suc n)) → In e (walk w (suc n) f)
turn_in rising e n f (inl m) = in_left e (up n f) (f (suc n)) m
turn_in rising e n f (inr m) = in_right e (up n f) (f (suc n)) m
turn_in falling e n f (inl m) = in_right e (f (suc n)) (down n f) m
turn_in falling e n f (inr m) = in_left e (f (suc n)) (down n f) m

once-turn : (w : Way) (n : ℕ) (f : ℕ → Boards) → Once (walk w n f) → Once (f (suc n))
    → ((e : List ℤ) → In e (walk w n f) → In e (f (suc n)) → ⊥) → Once (walk w (suc n) f)
once-turn rising n f h k s = once-append (up n f) (f (suc n)) h k s
once-turn falling n f h k s = once-append (f (suc n)) (down n f) k h (λ e a z. s e z a)

once-nothing : (w : Way) (f : ℕ → Boards) → Once (walk w 0 f)
once-nothing rising f = tt
once-nothing falling f = tt

-- P of one of the numbers 1 to n
abbrev pub SomeOf : ℕ → (ℕ → Type 0) → Type 0
SomeOf n P = (p : ℕ) × (0 < p) × (p ≤ n) × P p

pub in-walk : (w : Way) (e : List ℤ) (n : ℕ) (f : ℕ → Boards) → In e (walk w n f) → SomeOf n (λ p. In e (f p))
in-walk w e zero f m = absurd (in-nothing w e f m)
in-walk w e (suc n) f m = elim (in-turn w e n f m) [
  | inl k ↦ let r = in-walk w e n f k in (r.0, r.1, omega arith, r.3)
  | inr k ↦ (suc n, omega arith, omega arith, k)
]

pub walk-in : (w : Way) (e : List ℤ) (n : ℕ) (f : ℕ → Boards) (p : ℕ) → 0 < p → p ≤ n → In e (f p) → In e (walk w n f)
walk-in w e zero f p h k m = let r : ⊥ = omega arith in absurd r
walk-in w e (suc n) f p h k m = elim (ℕ_discrete (suc n) p) [
  | yes q ↦ turn_in w e n f (inr (rw q m))
  | no q ↦ turn_in w e n f (inl (walk-in w e n f p h (omega arith) m))
]

-- parts with nothing twice, no two of which share a board
pub once-walk : (w : Way) (n : ℕ) (f : ℕ → Boards) → ((p : ℕ) → p ≤ n → Once (f p))
    → ((p q : ℕ) (e : List ℤ) → p < q → q ≤ n → In e (f p) → In e (f q) → ⊥) → Once (walk w n f)
once-walk w zero f h s = once-nothing w f
once-walk w (suc n) f h s =
    once-turn w n f (once-walk w n f (λ p k. h p (omega arith)) (λ p q e k l. s p q e k (omega arith))) (h (suc n) (omega arith))
    (λ e m k. let r = in-walk w e n f m in s r.0 (suc n) e (omega arith) (omega arith) r.3 k)

-- ---- the boards after one step

module _ (b : List ℤ) (d : ℕ) (k : List ℤ → Boards) (p : ℕ) where
  pub in_after : (e : List ℤ) → In e (after b d k p) → (can_step b p d ≡ true) × In e (k (stepped b p d))
  unfolding after
  in_after e m = go (can_step b p d) refl m
    where
      go : (t : Bool) → can_step b p d ≡ t → In e (cond t (k (stepped b p d)) []) → (can_step b p d ≡ true) × In e (k (stepped b p d))
      go true q m = (q, m)
      go false q m = absurd m

  pub after-in : (e : List ℤ) → can_step b p d ≡ true → In e (k (stepped b p d)) → In e (after b d k p)
  unfolding after
  after-in e c m = rw c m

  pub once_after : (can_step b p d ≡ true → Once (k (stepped b p d))) → Once (after b d k p)
  unfolding after
  once_after h = by_cond (can_step b p d) (k (stepped b p d)) [] Once h (λ q. tt)

-- ---- the test whether a board stands in a list

same_entry-is : (y z : ℤ) → same_entry y z ≡ true → y ≡ z
same_entry-is (pos m) (pos n) h = ap pos (eqb-true m n h)
same_entry-is (pos m) (negsuc n) h = cc
same_entry-is (negsuc m) (pos n) h = cc
same_entry-is (negsuc m) (negsuc n) h = ap negsuc (eqb-true m n h)

same_entry-self : (z : ℤ) → same_entry z z ≡ true
same_entry-self (pos n) = eq-eqb n n refl
same_entry-self (negsuc n) = eq-eqb n n refl

pub same_board-is : (b c : List ℤ) → same_board b c ≡ true → b ≡ c
same_board-is [] [] h = refl
same_board-is [] (z ∷ zs) h = cc
same_board-is (y ∷ ys) [] h = cc
same_board-is (y ∷ ys) (z ∷ zs) h =
    let p = same_entry-is y z (and_left (same_entry y z) (same_board ys zs) h) in
    let q = same_board-is ys zs (and_right (same_entry y z) (same_board ys zs) h) in
    cc

pub same_board-self : (b : List ℤ) → same_board b b ≡ true
same_board-self [] = refl
same_board-self (z ∷ zs) = and_both (same_entry z z) (same_board zs zs) (same_entry-self z) (same_board-self zs)

among_in : (e : List ℤ) (l : Boards) → among e l ≡ true → In e l
among_in e [] h = absurd (subst T (sym h) tt)
among_in e (c ∷ l) h = go (among_in e l) (same_board e c) refl h
  where
    go : (among e l ≡ true → In e l) → (t : Bool) → same_board e c ≡ t → cond t true (among e l) ≡ true → In e (c ∷ l)
    go f true q k = inl (same_board-is e c q)
    go f false q k = inr (f k)

in-among : (e : List ℤ) (l : Boards) → In e l → among e l ≡ true
in-among e [] m = absurd m
in-among e (c ∷ l) (inl q) = rw (← q, same_board-self e)
in-among e (c ∷ l) (inr m) = by_cond (same_board e c) true (among e l) (λ t. t ≡ true) (λ q. refl) (λ q. in-among e l m)

-- the test agrees with the fact
pub among-is : (e : List ℤ) (l : Boards) → (among e l ≡ true) ↔ In e l
among-is e l = (among_in e l, in-among e l)

pub not-among : (e : List ℤ) (l : Boards) → among e l ≡ false → In e l → ⊥
not-among e l q m = subst T (sym (in-among e l m) ∙ q) tt

-- ---- the second list without repeats of the first

in-unseen : (e : List ℤ) (seen l : Boards) → In e (unseen seen l) → In e l × (In e seen → ⊥)
in-unseen e seen [] m = absurd m
in-unseen e seen (c ∷ l) m = go (in-unseen e seen l) (among c seen) refl m
  where
    go : (In e (unseen seen l) → In e l × (In e seen → ⊥)) → (t : Bool) → among c seen ≡ t
        → In e (cond t (unseen seen l) (c ∷ unseen seen l)) → In e (c ∷ l) × (In e seen → ⊥)
    go f true q k = (inr (f k).0, (f k).1)
    go f false q (inl z) = (inl z, λ h. not-among c seen q (subst (λ (x : List ℤ). In x seen) z h))
    go f false q (inr k) = (inr (f k).0, (f k).1)

unseen-in : (e : List ℤ) (seen l : Boards) → (In e seen → ⊥) → In e l → In e (unseen seen l)
unseen-in e seen [] n m = m
unseen-in e seen (c ∷ l) n m = go (unseen-in e seen l n) (among c seen) refl m
  where
    go : (In e l → In e (unseen seen l)) → (t : Bool) → among c seen ≡ t → In e (c ∷ l) → In e (cond t (unseen seen l) (c ∷ unseen seen l))
    go f true q (inl z) = absurd (n (among_in e seen (rw z q)))
    go f true q (inr k) = f k
    go f false q (inl z) = inl z
    go f false q (inr k) = inr (f k)

once-unseen : (seen l : Boards) → Once l → Once (unseen seen l)
once-unseen seen [] h = tt
once-unseen seen (c ∷ l) h =
    let k = once-unseen seen l h.1 in
    by_cond (among c seen) (unseen seen l) (c ∷ unseen seen l) Once (λ q. k) (λ q. ((λ m. h.0 (in-unseen c seen l m).0), k))

pub in-join : (e : List ℤ) (l r : Boards) → In e (join l r) → In e l ⊎ In e r
unfolding join
in-join e l r m = elim (in-cases e l (unseen l r) m) [ inl k ↦ inl k | inr k ↦ inr (in-unseen e l r k).0 ]

pub join-in : (e : List ℤ) (l r : Boards) → In e l ⊎ In e r → In e (join l r)
unfolding join
join-in e l r (inl m) = in_left e l (unseen l r) m
join-in e l r (inr m) = go (among e l) refl
  where
    go : (t : Bool) → among e l ≡ t → In e (l ++ unseen l r)
    go true q = in_left e l (unseen l r) (among_in e l q)
    go false q = in_right e l (unseen l r) (unseen-in e l r (not-among e l q) m)

pub once_join : (l r : Boards) → Once l → Once r → Once (join l r)
unfolding join
once_join l r h k = once-append l (unseen l r) h (once-unseen l r k) (λ e m n. (in-unseen e l r n).1 m)

-- ---- the first list, or the second where the first is empty

pub in-or_else : (e : List ℤ) (l r : Boards) → In e (or_else l r) → In e l ⊎ ((l ≡ []) × In e r)
in-or_else e [] r m = inr (refl, m)
in-or_else e (c ∷ l) r m = inl m

pub or_else-left : (e : List ℤ) (l r : Boards) → In e l → In e (or_else l r)
or_else-left e [] r m = absurd m
or_else-left e (c ∷ l) r m = m

-- if anything stands in the first, e stands there; so e need not stand in the second then
pub or_else-right : (e : List ℤ) (l r : Boards) → ((f : List ℤ) → In f l → In e l) → In e r → In e (or_else l r)
or_else-right e [] r n m = m
or_else-right e (c ∷ l) r n m = n c (inl refl)

-- what holds of both lists
pub or_else-keeps : (P : Boards → Type 0) (l r : Boards) → P l → P r → P (or_else l r)
or_else-keeps P [] r h k = k
or_else-keeps P (c ∷ l) r h k = h

pub in-none : (e : List ℤ) (l : Boards) → l ≡ [] → In e l → ⊥
in-none e l q m = rw q at m

-- ---- each board of a list changed

pub in_map : (f : List ℤ → List ℤ) (e : List ℤ) (l : Boards) → In e (map f l) → (c : List ℤ) × In c l × (e ≡ f c)
in_map f e [] m = absurd m
in_map f e (c ∷ l) (inl q) = (c, inl refl, q)
in_map f e (c ∷ l) (inr m) = let r = in_map f e l m in (r.0, inr r.1, r.2)

pub map-in : (f : List ℤ → List ℤ) (c : List ℤ) (l : Boards) → In c l → In (f c) (map f l)
map-in f c [] m = absurd m
map-in f c (a ∷ l) (inl q) = inl (ap f q)
map-in f c (a ∷ l) (inr m) = inr (map-in f c l m)

pub once-map : (f : List ℤ → List ℤ) (l : Boards) → ((a c : List ℤ) → In a l → In c l → f a ≡ f c → a ≡ c) → Once l → Once (map f l)
once-map f [] h o = tt
once-map f (c ∷ l) h o = (
  (λ m. let r = in_map f (f c) l m in o.0 (subst (λ (x : List ℤ). In x l) (sym (h c r.0 (inl refl) (inr r.1) r.2)) r.1)),
  once-map f l (λ a z p q. h a z (inr p) (inr q)) o.1,
)

-- ---- lists with the same boards, each once, are equally long

-- the list without one place of e
without : (e : List ℤ) (l : Boards) → In e l → Boards
without e [] m = []
without e (c ∷ l) (inl q) = l
without e (c ∷ l) (inr m) = c ∷ without e l m

length_without : (e : List ℤ) (l : Boards) (m : In e l) → suc (length (without e l m)) ≡ length l
unfolding without
length_without e [] m = absurd m
length_without e (c ∷ l) (inl q) = refl
length_without e (c ∷ l) (inr m) = ap suc (length_without e l m)

in_without : (f e : List ℤ) (l : Boards) (m : In e l) → f ≢ e → In f l → In f (without e l m)
unfolding without
in_without f e [] m n k = k
in_without f e (c ∷ l) (inl q) n (inl z) = absurd (n (z ∙ sym q))
in_without f e (c ∷ l) (inl q) n (inr k) = k
in_without f e (c ∷ l) (inr m) n (inl z) = inl z
in_without f e (c ∷ l) (inr m) n (inr k) = inr (in_without f e l m n k)

pub no_longer : (l r : Boards) → Once l → ((e : List ℤ) → In e l → In e r) → length l ≤ length r
no_longer [] r o h = omega arith
no_longer (c ∷ l) r o h =
    let m = h c (inl refl) in
    let k = no_longer l (without c r m) o.1 (λ e i. in_without e c r m (λ q. o.0 (subst (λ (x : List ℤ). In x l) q i)) (h e (inr i))) in
    omega (arith, length_without c r m)
