-- A mixed roll: the list has the ends of the plays of both dice, else of the larger, else of the smaller, else the unchanged board, each once.
-- Assumes nothing.
use mathlib.Core.Path.{◌≡◌, refl, ap, subst, ◌∙◌}
use mathlib.Core.Logic.{◌≢◌, ◌⊎◌, inl, inr}
use mathlib.Core.Bool.{Bool, true, cond}
use mathlib.Core.List.{List, [], ◌∷◌}
use Prim.Native.Nat.{ℕ, zero, suc, ◌-◌, ◌≤◌, ◌<◌, min, max}
use native.Mathlib.Omega.{arith}
use native.Mathlib.Decide.{ℕ_discrete, dec_le, dec_lt}
use borrow.Author.Tests.{lt-ltb, le-ltb}
use lib.IntN.{ℤ}
use Rattle.ints.proofs.Tests.{lt-or-le}
use Rattle.position.specs.Board.{xs}
use Rattle.position.specs.Step.{Good, can_step, stepped}
use Rattle.position.proofs.Steps.{test-legal}
use Rattle.rules.specs.Plays.{dice_rolled, Play, LegalEnd}
use Rattle.rules.specs.Ends.{after, only, join, or_else, from_top, from_low, enter, both, single, mixed, In, Once}
use Rattle.dice.specs.Dice.{Die}
use Rattle.rules.proofs.Dice.{smaller-die, larger-die, mixed-dice}
use Rattle.rules.proofs.Lists.{Boards, Way, rising, falling, walk, SomeOf, in-walk, walk-in, once-walk, in_after, after-in, once_after, in-join, join-in, once_join, in-or_else, or_else-left, or_else-right, or_else-keeps, once-only, in-none}
use Rattle.rules.proofs.Two.{One, Two, can-within, can-good, from-bar, from-point}
use Rattle.rules.proofs.Plays.{play-most}
use Rattle.rules.proofs.Commute.{swap}
use Rattle.rules.proofs.Marks.{Mark, marks, mark-step, mark-steps, mark-below, below_up}

one-mark : (b e : List ℤ) (p d : ℕ) → Good b → Die d → can_step b p d ≡ true → e ≡ stepped b p d → Mark b e p
one-mark b e p d g dd c q = rw q (mark-step b p d g dd (test-legal b p d c))

-- ---- one step from an origin of 1 to n, the origins walked either way

module _ (w : Way) (n d : ℕ) (b : List ℤ) where
  abbrev pub ones : Boards
  ones = walk w n (after b d only)

  pub in_ones : (e : List ℤ) → In e ones → SomeOf n (λ p. (can_step b p d ≡ true) × (e ≡ stepped b p d))
  in_ones e m =
      let r = in-walk w e n (after b d only) m in
      let s = in_after b d only r.0 e r.3 in
      (r.0, r.1, r.2, (s.0, elim s.1 [ inl q ↦ q | inr z ↦ absurd z ]))

  pub ones_in : (e : List ℤ) (p : ℕ) → 0 < p → p ≤ n → can_step b p d ≡ true → e ≡ stepped b p d → In e ones
  ones_in e p h k c q = walk-in w e n (after b d only) p h k (after-in b d only p e c (inl q))

  module _ (g : Good b) (dd : Die d) where
    part-mark : (e : List ℤ) (p : ℕ) → In e (after b d only p) → Mark b e p
    part-mark e p m =
        let r = in_after b d only p e m in
        elim r.1 [ inl q ↦ one-mark b e p d g dd r.0 q | inr z ↦ absurd z ]

    pub once-ones : Once ones
    once-ones =
        once-walk w n (after b d only) (λ p h. once_after b d only p (λ c. once-only (stepped b p d)))
        (λ p q e h k u v. marks b e p q h (part-mark e p u) (part-mark e q v))

-- ---- a step from p by d, and one by c from an origin of 1 to n

module _ (w : Way) (n d c : ℕ) (b : List ℤ) (p : ℕ) where
  abbrev pub pairs : Boards
  pairs = after b d (λ x. ones w n c x) p

  pub in_pairs : (e : List ℤ) → In e pairs
      → (can_step b p d ≡ true) × SomeOf n (λ q. (can_step (stepped b p d) q c ≡ true) × (e ≡ stepped (stepped b p d) q c))
  in_pairs e m =
      let r = in_after b d (λ x. ones w n c x) p e m in
      (r.0, in_ones w n c (stepped b p d) e r.1)

  pairs-two : (e : List ℤ) → In e pairs → Two d c b e
  pairs-two e m = let r = in_pairs e m in (p, r.0, (r.1.0, r.1.3.0, r.1.3.1))

  pub pairs-in : (e : List ℤ) (q : ℕ) → 0 < q → q ≤ n → can_step b p d ≡ true → can_step (stepped b p d) q c ≡ true
      → e ≡ stepped (stepped b p d) q c → In e pairs
  pairs-in e q h k s t z = after-in b d (λ x. ones w n c x) p e s (ones_in w n c (stepped b p d) e q h k t z)

  module _ (g : Good b) (dd : Die d) (dc : Die c) where
    pairs-mark : n ≤ p → (e : List ℤ) → In e pairs → Mark b e p
    pairs-mark h e m =
        let r = in_pairs e m in
        let t = r.1 in
        let k = one-mark (stepped b p d) e t.0 c (can-good b p d g r.0) dc t.3.0 t.3.1 in
        let le : t.0 ≤ p = omega arith in
        mark-steps b p d g dd (test-legal b p d r.0) e (below_up p le (mark-below k))

    pub once-pairs : Once pairs
    once-pairs = once_after b d (λ x. ones w n c x) p (λ s. once-ones w n c (stepped b p d) (can-good b p d g s) dc)

-- ---- both dice from the points: from each point p by d, and from 1 to f p by c

module _ (w : Way) (f : ℕ → ℕ) (d c : ℕ) (b : List ℤ) where
  abbrev half : Boards
  half = walk w 24 (λ p. pairs w (f p) d c b p)

  half-two : (e : List ℤ) → In e half → Two d c b e
  half-two e m = let r = in-walk w e 24 (λ p. pairs w (f p) d c b p) m in pairs-two w (f r.0) d c b r.0 e r.3

  half_in : Good b → xs b 25 ≡ 0 → (e : List ℤ) (p q : ℕ) → q ≤ f p → can_step b p d ≡ true → can_step (stepped b p d) q c ≡ true
      → e ≡ stepped (stepped b p d) q c → In e half
  half_in g z e p q h k m t =
      walk-in w e 24 (λ p. pairs w (f p) d c b p) p (can-within b p d g k).0 (from-point b p d g k z)
      (pairs-in w (f p) d c b p e q (can-within (stepped b p d) q c (can-good b p d g k) m).0 h k m t)

  once-half : Good b → Die d → Die c → ((p : ℕ) → f p ≤ p) → Once half
  once-half g dd dc h =
      once-walk w 24 (λ p. pairs w (f p) d c b p) (λ p k. once-pairs w (f p) d c b p g dd dc)
      (λ p q e k m x y. marks b e p q k (pairs-mark w (f p) d c b p g dd dc (h p) e x) (pairs-mark w (f q) d c b q g dd dc (h q) e y))

-- what holds of each list that a mixed roll chooses from
pub mixed-keeps : (P : Boards → Type 0) (b : List ℤ) (s l : ℕ) → P (both b s l) → P (single b l) → P (single b s) → P (only b) → P (mixed b s l)
unfolding mixed
mixed-keeps P b s l h k m n =
    or_else-keeps P (both b s l) (or_else (single b l) (or_else (single b s) (only b))) h
    (or_else-keeps P (single b l) (or_else (single b s) (only b)) k (or_else-keeps P (single b s) (only b) m n))

-- ---- both dice

module _ (b : List ℤ) (s l : ℕ) where
  abbrev by_bar : Bool → Boards
  by_bar t = cond t (join (enter b l s) (enter b s l)) (join (from_top b s l) (from_low b l s))

  both-free : xs b 25 ≡ 0 → both b s l ≡ join (from_top b s l) (from_low b l s)
  unfolding both
  both-free z = ap by_bar (le-ltb 0 (xs b 25) (omega arith))

  both-bar : 0 < xs b 25 → both b s l ≡ join (enter b l s) (enter b s l)
  unfolding both
  both-bar h = ap by_bar (lt-ltb 0 (xs b 25) h)

  abbrev pub Pair : List ℤ → Type 0
  Pair e = Two s l b e ⊎ Two l s b e

  pub in_both : (e : List ℤ) → In e (both b s l) → Pair e
  unfolding from_top from_low enter
  in_both e m = elim (lt-or-le 0 (xs b 25)) [
    | inl h ↦ elim (in-join e (enter b l s) (enter b s l) (rw (both-bar h) at m)) [
      | inl k ↦ inr (pairs-two rising 25 l s b 25 e k)
      | inr k ↦ inl (pairs-two rising 25 s l b 25 e k)
    ]
    | inr h ↦ elim (in-join e (from_top b s l) (from_low b l s) (rw (both-free (omega arith)) at m)) [
      | inl k ↦ inl (half-two falling (λ p. p) s l b e k)
      | inr k ↦ inr (half-two rising (λ p. p - 1) l s b e k)
    ]
  ]

  module _ (g : Good b) (ds : Die s) (dl : Die l) where
    -- two steps whose origins rise are two the other way round whose origins fall
    free_in : xs b 25 ≡ 0 → (e : List ℤ) → Pair e → In e (from_top b s l) ⊎ In e (from_low b l s)
    unfolding from_top from_low
    free_in z e (inl (p, k, (q, m, t))) = elim (dec_le q p) [
      | yes h ↦ inl (half_in falling (λ p. p) s l b g z e p q h k m t)
      | no n ↦
          let w = swap b p s q l g ds dl (omega arith) k m in
          inr (half_in rising (λ p. p - 1) l s b g z e q p (omega arith) w.first w.second (t ∙ w.same))
    ]
    free_in z e (inr (p, k, (q, m, t))) = elim (dec_lt q p) [
      | yes h ↦ inr (half_in rising (λ p. p - 1) l s b g z e p q (omega arith) k m t)
      | no n ↦
          let w = swap b p l q s g dl ds (omega arith) k m in
          inl (half_in falling (λ p. p) s l b g z e q p (omega arith) w.first w.second (t ∙ w.same))
    ]

    -- a checker on the bar enters first
    enter-in : (d c : ℕ) (e : List ℤ) → 0 < xs b 25 → Two d c b e → In e (enter b d c)
    unfolding enter
    enter-in d c e h (p, k, (q, m, t)) =
        let v = can-within (stepped b p d) q c (can-good b p d g k) m in
        subst (λ (x : ℕ). In e (pairs rising 25 d c b x)) (from-bar b p d g k h) (pairs-in rising 25 d c b p e q v.0 v.1 k m t)

    pub both-in : (e : List ℤ) → Pair e → In e (both b s l)
    both-in e m = elim (lt-or-le 0 (xs b 25)) [
      | inl h ↦ rw (both-bar h) (join-in e (enter b l s) (enter b s l) (elim m [ inl t ↦ inr (enter-in s l e h t) | inr t ↦ inl (enter-in l s e h t) ]))
      | inr h ↦ let z : xs b 25 ≡ 0 = omega arith in rw (both-free z) (join-in e (from_top b s l) (from_low b l s) (free_in z e m))
    ]

    pub once-both : Once (both b s l)
    unfolding from_top from_low enter
    once-both = elim (lt-or-le 0 (xs b 25)) [
      | inl h ↦
          rw (both-bar h)
          (once_join (enter b l s) (enter b s l) (once-pairs rising 25 l s b 25 g dl ds) (once-pairs rising 25 s l b 25 g ds dl))
      | inr h ↦
          rw (both-free (omega arith))
          (once_join (from_top b s l) (from_low b l s) (once-half falling (λ p. p) s l b g ds dl (λ p. omega arith))
          (once-half rising (λ p. p - 1) l s b g dl ds (λ p. omega arith)))
    ]

    pub once-mixed : Once (mixed b s l)
    unfolding single
    once-mixed = mixed-keeps Once b s l once-both (once-ones rising 25 l b g dl) (once-ones rising 25 s b g ds) (once-only b)

-- ---- one die

pub in-single : (e b : List ℤ) (d : ℕ) → In e (single b d) → One d b e
unfolding single
in-single e b d m = let r = in_ones rising 25 d b e m in (r.0, r.3.0, r.3.1)

pub single-in : (e b : List ℤ) (d : ℕ) → Good b → One d b e → In e (single b d)
unfolding single
single-in e b d g (p, c, q) = let w = can-within b p d g c in ones_in rising 25 d b e p w.0 w.1 c q

-- ---- plays with two different dice

pub play-two : (s l : ℕ) (b e : List ℤ) → Play 2 (l ∷ s ∷ []) b e → Two s l b e ⊎ Two l s b e
play-two s l b e (inl (p, t, inl w)) = inr (p, t, w)
play-two s l b e (inl (p, t, inr w)) = absurd w
play-two s l b e (inr (inl (p, t, inl w))) = inl (p, t, w)
play-two s l b e (inr (inl (p, t, inr w))) = absurd w
play-two s l b e (inr (inr w)) = absurd w

two-play : (s l : ℕ) (b e : List ℤ) → Two s l b e ⊎ Two l s b e → Play 2 (l ∷ s ∷ []) b e
two-play s l b e (inr (p, t, w)) = inl (p, t, inl w)
two-play s l b e (inl (p, t, w)) = inr (inl (p, t, inl w))

pub play-one : (s l : ℕ) (b e : List ℤ) → Play 1 (l ∷ s ∷ []) b e → One l b e ⊎ One s b e
play-one s l b e (inl w) = inl w
play-one s l b e (inr (inl w)) = inr w
play-one s l b e (inr (inr w)) = absurd w

module _ (b : List ℤ) (d1 d2 : ℕ) (g : Good b) (dd1 : Die d1) (dd2 : Die d2) (ne : d1 ≢ d2) where
  abbrev s : ℕ
  s = min d1 d2

  abbrev l : ℕ
  l = max d1 d2

  ds : Die s
  ds = smaller-die d1 d2 dd1 dd2

  dl : Die l
  dl = larger-die d1 d2 dd1 dd2

  two : dice_rolled d1 d2 ≡ l ∷ s ∷ []
  two = mixed-dice d1 d2 ne

  no_one : (d : ℕ) → single b d ≡ [] → (f : List ℤ) → One d b f → ⊥
  no_one d q f x = in-none f (single b d) q (single-in f b d g x)

  at_most_one : both b s l ≡ [] → (n : ℕ) (f : List ℤ) → Play n (dice_rolled d1 d2) b f → n ≤ 1
  at_most_one q n f x = elim (ℕ_discrete n 2) [
    | yes z ↦
        let p = subst (λ (k : ℕ). Play k (l ∷ s ∷ []) b f) z (rw two at x) in
        absurd (in-none f (both b s l) q (both-in b s l g ds dl f (play-two s l b f p)))
    | no z ↦ omega (arith, play-most n (l ∷ s ∷ []) b f (rw two at x))
  ]

  none_at_all : both b s l ≡ [] → single b l ≡ [] → single b s ≡ [] → (n : ℕ) (f : List ℤ) → Play n (dice_rolled d1 d2) b f → n ≤ 0
  none_at_all q u v n f x = elim (ℕ_discrete n 1) [
    | yes z ↦
        let p = subst (λ (k : ℕ). Play k (l ∷ s ∷ []) b f) z (rw two at x) in
        absurd (elim (play-one s l b f p) [ inl w ↦ no_one l u f w | inr w ↦ no_one s v f w ])
    | no z ↦ omega (arith, at_most_one q n f x)
  ]

  pub mixed-legal : (e : List ℤ) → In e (mixed b s l) → LegalEnd b d1 d2 e
  unfolding mixed
  mixed-legal e m = elim (in-or_else e (both b s l) (or_else (single b l) (or_else (single b s) (only b))) m) [
    | inl k ↦ record {
      used = 2;
      play = rw two (two-play s l b e (in_both b s l e k));
      most = λ n f x. omega (arith, play-most n (l ∷ s ∷ []) b f (rw two at x));
      larger = λ z. let r : ⊥ = omega arith in absurd r;
    }
    | inr k ↦ elim (in-or_else e (single b l) (or_else (single b s) (only b)) k.1) [
      | inl w ↦ record {
        used = 1;
        play = rw two (inl (in-single e b l w));
        most = λ n f x. omega (arith, at_most_one k.0 n f x);
        larger = λ z p t. inl (in-single e b l w);
      }
      | inr w ↦ elim (in-or_else e (single b s) (only b) w.1) [
        | inl v ↦ record {
          used = 1;
          play = rw two (inr (inl (in-single e b s v)));
          most = λ n f x. omega (arith, at_most_one k.0 n f x);
          larger = λ z p t. absurd (no_one l w.0 (stepped b p l) (p, t, refl));
        }
        | inr v ↦ record {
          used = 0;
          play = elim v.1 [ inl q ↦ q | inr z ↦ absurd z ];
          most = λ n f x. omega (arith, none_at_all k.0 w.0 v.0 n f x);
          larger = λ z. let r : ⊥ = omega arith in absurd r;
        }
      ]
    ]
  ]

  -- what a longer play would lead to is not there
  module _ (e : List ℤ) (le : LegalEnd b d1 d2 e) where
    shape : (k : ℕ) → le.used ≡ k → Play k (l ∷ s ∷ []) b e
    shape k q = subst (λ (x : ℕ). Play x (l ∷ s ∷ []) b e) q (rw two at le.play)

    longer : {X : Type 0} (k : ℕ) (f : List ℤ) → le.used < k → Play k (l ∷ s ∷ []) b f → X
    longer k f h p = let z = le.most k f (rw two p) in let r : ⊥ = omega arith in absurd r

    not-both : le.used ≤ 1 → (f : List ℤ) → In f (both b s l) → In e (both b s l)
    not-both h f m = longer 2 f (omega arith) (two-play s l b f (in_both b s l f m))

    pub mixed-listed : In e (mixed b s l)
    unfolding mixed
    mixed-listed = go le.used refl (play-most le.used (l ∷ s ∷ []) b e (rw two at le.play))
      where
        small : Boards
        small = or_else (single b s) (only b)

        one : Boards
        one = or_else (single b l) small

        larger-one : le.used ≡ 1 → (f : List ℤ) → In f (single b l) → In e (single b l)
        larger-one q f m =
            let o = in-single f b l m in
            single-in e b l g (elim (le.larger q o.0 o.1) [ inl w ↦ w | inr z ↦ absurd z ])

        go : (k : ℕ) → le.used ≡ k → k ≤ 2 → In e (mixed b s l)
        go zero q h =
            or_else-right e (both b s l) one (not-both (omega arith))
            (or_else-right e (single b l) small (λ f m. longer 1 f (omega arith) (inl (in-single f b l m)))
            (or_else-right e (single b s) (only b) (λ f m. longer 1 f (omega arith) (inr (inl (in-single f b s m)))) (inl (shape 0 q))))
        go (suc zero) q h =
            or_else-right e (both b s l) one (not-both (omega arith))
            (elim (play-one s l b e (shape 1 q)) [
              | inl w ↦ or_else-left e (single b l) small (single-in e b l g w)
              | inr w ↦ or_else-right e (single b l) small (larger-one q) (or_else-left e (single b s) (only b) (single-in e b s g w))
            ])
        go (suc (suc zero)) q h = or_else-left e (both b s l) one (both-in b s l g ds dl e (play-two s l b e (shape 2 q)))
        go (suc (suc (suc k))) q h = let r : ⊥ = omega arith in absurd r
