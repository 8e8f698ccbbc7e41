-- A double: steps by one die in any order are steps whose origins never rise, so the list has the ends of the longest plays, each once.
-- Assumes nothing.
use mathlib.Core.Path.{◌≡◌, refl, sym, subst}
use mathlib.Core.Logic.{◌↔◌, inl, inr}
use mathlib.Core.Bool.{true}
use mathlib.Core.List.{List, ◌∷◌}
use Prim.Native.Nat.{ℕ, zero, suc, ◌≤◌, ◌<◌, max}
use native.Mathlib.Omega.{arith}
use native.Mathlib.Decide.{ℕ_discrete, dec_le}
use lib.IntN.{ℤ}
use lib.ListN.{replicate}
use Rattle.position.specs.Step.{Good, can_step, stepped}
use Rattle.position.proofs.Steps.{test-legal}
use Rattle.rules.specs.Plays.{AnyDie, Play, LegalEnd}
use Rattle.rules.specs.Ends.{after, doubles, most, In, Once}
use Rattle.dice.specs.Dice.{Die}
use Rattle.rules.proofs.Dice.{double-dice}
use Rattle.rules.proofs.Lists.{rising, in-walk, walk-in, once-walk, in_after, after-in, once_after, in-or_else, or_else-left, or_else-right, or_else-keeps, once-only, in-none}
use Rattle.rules.proofs.Two.{can-within, can-good}
use Rattle.rules.proofs.Commute.{swap}
use Rattle.rules.proofs.Marks.{Mark, Below, marks, mark-below, mark-steps, below-same, below_up}

-- n steps by d, in any order
abbrev pub Steps : ℕ → ℕ → List ℤ → List ℤ → Type 0
Steps d zero b e = e ≡ b
Steps d (suc n) b e = (p : ℕ) × (can_step b p d ≡ true) × Steps d n (stepped b p d) e

-- n steps by d, each from at or below the one before, the first from at most top
abbrev pub Sorted : ℕ → ℕ → ℕ → List ℤ → List ℤ → Type 0
Sorted d zero top b e = e ≡ b
Sorted d (suc n) top b e = (p : ℕ) × (0 < p) × (p ≤ top) × (can_step b p d ≡ true) × Sorted d n p (stepped b p d) e

-- the list of a double is that of the sorted steps
pub in-doubles : (d k top : ℕ) (b e : List ℤ) → In e (doubles d k top b) → Sorted d k top b e
unfolding doubles
in-doubles d zero top b e (inl q) = q
in-doubles d zero top b e (inr m) = absurd m
in-doubles d (suc k) top b e m =
    let r = in-walk rising e top (λ p. after b d (doubles d k p) p) m in
    let s = in_after b d (doubles d k r.0) r.0 e r.3 in
    (r.0, r.1, r.2, s.0, in-doubles d k r.0 (stepped b r.0 d) e s.1)

pub doubles-in : (d k top : ℕ) (b e : List ℤ) → Sorted d k top b e → In e (doubles d k top b)
unfolding doubles
doubles-in d zero top b e q = inl q
doubles-in d (suc k) top b e c =
    walk-in rising e top (λ p. after b d (doubles d k p) p) c.0 c.1 c.2
    (after-in b d (doubles d k c.0) c.0 e c.3 (doubles-in d k c.0 (stepped b c.0 d) e c.4))

pub unsorted : (d n top : ℕ) (b e : List ℤ) → Sorted d n top b e → Steps d n b e
unsorted d zero top b e q = q
unsorted d (suc n) top b e c = (c.0, c.3, unsorted d n c.0 (stepped b c.0 d) e c.4)

module _ (d : ℕ) (dd : Die d) where
  -- a step before sorted ones finds its place among them
  insert : (n top p : ℕ) (b e : List ℤ) → Good b → can_step b p d ≡ true → p ≤ top → Sorted d n top (stepped b p d) e → Sorted d (suc n) top b e
  insert zero top p b e g c h q = (p, (can-within b p d g c).0, h, c, q)
  insert (suc n) top p b e g c h k = elim (dec_le k.0 p) [
    | yes u ↦ (p, (can-within b p d g c).0, h, c, (k.0, k.1, u, k.3, k.4))
    | no u ↦
        let v : p ≤ k.0 = omega arith in
        let s = swap b p d k.0 d g dd dd v c k.3 in
        let t = subst (λ (x : List ℤ). Sorted d n k.0 x e) s.same k.4 in
        (k.0, k.1, k.2, s.first, insert n k.0 p (stepped b k.0 d) e (can-good b k.0 d g s.first) s.second v t)
  ]

  pub sorted : (n : ℕ) (b e : List ℤ) → Good b → Steps d n b e → Sorted d n 25 b e
  sorted zero b e g q = q
  sorted (suc n) b e g s =
      insert n 25 s.0 b e g s.1 (can-within b s.0 d g s.1).1
      (sorted n (stepped b s.0 d) e (can-good b s.0 d g s.1) s.2)

  steps-in : (n : ℕ) (b e : List ℤ) → Good b → Steps d n b e → In e (doubles d n 25 b)
  steps-in n b e g s = doubles-in d n 25 b e (sorted n b e g s)

  in-steps : (n : ℕ) (b e : List ℤ) → In e (doubles d n 25 b) → Steps d n b e
  in-steps n b e m = unsorted d n 25 b e (in-doubles d n 25 b e m)

  -- ---- each end once

  pub sorted-below : (n top : ℕ) (b e : List ℤ) → Good b → Sorted d n top b e → Below b e top
  sorted-below zero top b e g q = below-same b e top q
  sorted-below (suc n) top b e g c =
      let k = sorted-below n c.0 (stepped b c.0 d) e (can-good b c.0 d g c.3) c.4 in
      below_up top c.2 (mark-below (mark-steps b c.0 d g dd (test-legal b c.0 d c.3) e k))

  -- the first origin can be told from the end
  part-mark : (k p : ℕ) (b e : List ℤ) → Good b → In e (after b d (doubles d k p) p) → Mark b e p
  part-mark k p b e g m =
      let r = in_after b d (doubles d k p) p e m in
      let s = in-doubles d k p (stepped b p d) e r.1 in
      mark-steps b p d g dd (test-legal b p d r.0) e (sorted-below k p (stepped b p d) e (can-good b p d g r.0) s)

  once-doubles : (k top : ℕ) (b : List ℤ) → Good b → Once (doubles d k top b)
  unfolding doubles
  once-doubles zero top b g = once-only b
  once-doubles (suc k) top b g =
      once-walk rising top (λ p. after b d (doubles d k p) p)
      (λ p h. once_after b d (doubles d k p) p (λ c. once-doubles k p (stepped b p d) (can-good b p d g c)))
      (λ p q e h u m n. marks b e p q h (part-mark k p b e g m) (part-mark k q b e g n))

  pub once-most : (b : List ℤ) (k : ℕ) → Good b → Once (most d b k)
  unfolding most
  once-most b zero g = once-only b
  once-most b (suc k) g = or_else-keeps Once (doubles d (suc k) 25 b) (most d b k) (once-doubles (suc k) 25 b g) (once-most b k g)

-- ---- the ends of the longest plays

-- of all plays of at most k steps by d, none is longer than one to e
abbrev Longest : ℕ → ℕ → List ℤ → List ℤ → Type 0
Longest d k b e = (n : ℕ) × (n ≤ k) × Steps d n b e × ((m : ℕ) (f : List ℤ) → m ≤ k → Steps d m b f → m ≤ n)

module _ (d : ℕ) (dd : Die d) (b : List ℤ) (g : Good b) (e : List ℤ) where
  in-most : (k : ℕ) → In e (most d b k) → Longest d k b e
  unfolding most
  in-most zero (inl q) = (0, omega arith, q, λ m f h s. h)
  in-most zero (inr m) = absurd m
  in-most (suc k) m = elim (in-or_else e (doubles d (suc k) 25 b) (most d b k) m) [
    | inl u ↦ (suc k, omega arith, in-steps d dd (suc k) b e u, λ m f h s. h)
    | inr u ↦
        let r = in-most k u.1 in (
          r.0,
          omega arith,
          r.2,
          λ m f h s. elim (ℕ_discrete m (suc k)) [
            | yes q ↦ absurd (in-none f (doubles d (suc k) 25 b) u.0 (steps-in d dd (suc k) b f g (subst (λ (x : ℕ). Steps d x b f) q s)))
            | no q ↦ r.3 m f (omega arith) s
          ],
        )
  ]

  most-in : (k n : ℕ) → n ≤ k → Steps d n b e → ((m : ℕ) (f : List ℤ) → m ≤ k → Steps d m b f → m ≤ n) → In e (most d b k)
  unfolding most
  most-in zero zero h s w = inl s
  most-in zero (suc n) h s w = let r : ⊥ = omega arith in absurd r
  most-in (suc k) n h s w = elim (ℕ_discrete n (suc k)) [
    | yes q ↦ or_else-left e (doubles d (suc k) 25 b) (most d b k) (steps-in d dd (suc k) b e g (subst (λ (x : ℕ). Steps d x b e) q s))
    | no q ↦
        or_else-right e (doubles d (suc k) 25 b) (most d b k)
        (λ f m. let r = w (suc k) f (omega arith) (in-steps d dd (suc k) b f m) in let z : ⊥ = omega arith in absurd z)
        (most-in k n (omega arith) s (λ m f u. w m f (omega arith)))
  ]

-- ---- plays with the dice of a double

any_same : (m d : ℕ) (P : ℕ → List ℕ → Type 0) → AnyDie (replicate m d) P → (k : ℕ) × (m ≡ suc k) × P d (replicate k d)
any_same zero d P a = absurd a
any_same (suc m) d P (inl x) = (m, refl, x)
any_same (suc m) d P (inr y) =
    let r = any_same m d (λ e rest. P e (d ∷ rest)) y in
    (m, refl, subst (λ (x : ℕ). P d (replicate x d)) (sym r.1) r.2)

play-steps : (n m d : ℕ) (b e : List ℤ) → Play n (replicate m d) b e → (n ≤ m) × Steps d n b e
play-steps zero m d b e q = (omega arith, q)
play-steps (suc n) m d b e a =
    let r = any_same m d (λ d rest. (p : ℕ) × (can_step b p d ≡ true) × Play n rest (stepped b p d) e) a in
    let s = play-steps n r.0 d (stepped b r.2.0 d) e r.2.2 in
    (omega arith, (r.2.0, r.2.1, s.1))

steps-play : (n m d : ℕ) (b e : List ℤ) → n ≤ m → Steps d n b e → Play n (replicate m d) b e
steps-play zero m d b e h q = q
steps-play (suc n) zero d b e h s = let r : ⊥ = omega arith in absurd r
steps-play (suc n) (suc m) d b e h s = inl (s.0, s.1, steps-play n m d (stepped b s.0 d) e (omega arith) s.2)

-- whatever order k of the m dice of a double are played in, the end is that of a play whose origins never rise
pub double-sorted : (d k m : ℕ) (b e : List ℤ) → Die d → Good b → k ≤ m → Play k (replicate m d) b e ↔ In e (doubles d k 25 b)
double-sorted d k m b e dd g h =
    ((λ p. steps-in d dd k b e g (play-steps k m d b e p).1), λ i. steps-play k m d b e h (in-steps d dd k b e i))

module _ (b : List ℤ) (d1 d2 : ℕ) (g : Good b) (dd : Die d1) (eq : d1 ≡ d2) (e : List ℤ) where
  pub double-legal : In e (most d1 b 4) → LegalEnd b d1 d2 e
  double-legal m =
      let r = in-most d1 dd b g e 4 m in
      let largest : max d1 d2 ≡ d1 = omega arith in
      record {
        used = r.0;
        play = rw (double-dice d1 d2 eq) (steps-play r.0 4 d1 b e r.1 r.2);
        most = λ n f p. let s = play-steps n 4 d1 b f (rw (double-dice d1 d2 eq) at p) in omega (arith, r.3 n f s.0 s.1);
        larger = λ u p c. rw largest (inl (subst (λ (x : ℕ). Steps d1 x b e) u r.2));
      }

  pub double-listed : LegalEnd b d1 d2 e → In e (most d1 b 4)
  double-listed l =
      let s = play-steps l.used 4 d1 b e (rw (double-dice d1 d2 eq) at l.play) in
      most-in d1 dd b g e 4 l.used s.0 s.1 (λ m f h t. omega (arith, l.most m f (rw (double-dice d1 d2 eq) (steps-play m 4 d1 b f h t))))
