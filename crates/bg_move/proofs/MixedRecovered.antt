-- A mixed roll: the points that lost a checker tell the origins of a play whose origins never rise, so one of the combinations that recovery
-- tries leads to the end; and the first that does is a legal play of as many dice.
-- Assumes nothing.
use mathlib.Core.Path.{◌≡◌, refl, sym, ap, subst, ◌∙◌}
use mathlib.Core.Logic.{◌⊎◌, inl, inr}
use mathlib.Core.Bool.{Bool, true, false}
use mathlib.Core.List.{List, [], ◌∷◌}
use Prim.Native.Nat.{ℕ, zero, suc, ◌+◌, ◌-◌, ◌≤◌, ◌<◌}
use native.Mathlib.Omega.{arith}
use native.Mathlib.Decide.{ℕ_discrete, dec_le}
use borrow.Author.Tests.{eq-eqb, ne_eqb}
use lib.IntN.{ℤ}
use lib.ListN.{length}
use Rattle.ints.specs.Sums.{one}
use Rattle.ints.proofs.Sums.{one_same, one-other}
use Rattle.ints.proofs.Tests.{and_left, and_right, and_both, by_cond}
use Rattle.dice.specs.Dice.{Die}
use Rattle.position.specs.Board.{xs}
use Rattle.position.specs.Step.{Good, can_step, stepped}
use Rattle.position.proofs.Steps.{AfterStep, step-law, test-legal, reached, reached-on, reached-cases, reached-above}
use Rattle.rules.specs.Plays.{Play}
use Rattle.rules.specs.Ends.{same_board}
use Rattle.rules.proofs.Lists.{same_board-is, same_board-self}
use Rattle.rules.proofs.Plays.{play-most}
use Rattle.rules.proofs.Two.{Two, can-within, can-good}
use Rattle.rules.proofs.Commute.{swap}
use Rattle.rules.proofs.Marks.{mark-step}
use Rattle.rules.proofs.Repeats.{AfterTwo, two-law, mark-two}
use Rattle.rules.proofs.Mixed.{play-one, play-two}
use Rattle.bg_move.specs.declared.Step.{Step}
use Rattle.bg_move.specs.Steps.{two, Made, lost, lost_next, leads, leads_both, one_checker, two_checkers, mixed_steps}
use Rattle.bg_move.proofs.Losses.{lost-at, lost-none, lost-mark, lost-same, next-same, next-below}

-- ---- what the tests of one step and of two tell

module _ (b : List ℤ) (p d : ℕ) (e : List ℤ) where
  leads-step : leads b p d e ≡ true → (can_step b p d ≡ true) × (e ≡ stepped b p d)
  unfolding leads
  leads-step t =
      (and_left (can_step b p d) (same_board (stepped b p d) e) t, sym (same_board-is (stepped b p d) e (and_right (can_step b p d) (same_board (stepped b p d) e) t)))

  step-leads : can_step b p d ≡ true → e ≡ stepped b p d → leads b p d e ≡ true
  unfolding leads
  step-leads c q = rw (c, q) (same_board-self (stepped b p d))

module _ (b : List ℤ) (p d q c : ℕ) (e : List ℤ) where
  abbrev then : Bool
  then = leads (stepped b p d) q c e

  both-steps : leads_both b p d q c e ≡ true
      → (can_step b p d ≡ true) × ((can_step (stepped b p d) q c ≡ true) × (e ≡ stepped (stepped b p d) q c))
  unfolding leads_both
  both-steps t = (and_left (can_step b p d) then t, leads-step (stepped b p d) q c e (and_right (can_step b p d) then t))

  steps-both : can_step b p d ≡ true → can_step (stepped b p d) q c ≡ true → e ≡ stepped (stepped b p d) q c → leads_both b p d q c e ≡ true
  unfolding leads_both
  steps-both k m z = and_both (can_step b p d) then k (step-leads (stepped b p d) q c e m z)

differ : (t : Bool) → t ≡ true → t ≡ false → ⊥
differ t u v = let z : ◌≡◌ {A = ℕ} 0 1 = cc in omega arith

-- ---- the first of the steps tried that leads to the end, with the smaller die s and the larger l

module _ (b e : List ℤ) (s l : ℕ) where
  -- they lead to e by n of the dice
  abbrev ByDice : ℕ → List Step → Type 0
  ByDice n ts = Made ts (l ∷ s ∷ []) b e × (length ts ≡ n)

  -- the smaller die first, or the larger
  abbrev InOrder : (ℕ → ℕ → Type 0) → Type 0
  InOrder C = C s l ⊎ C l s

  smaller-first : (p q : ℕ) → leads_both b p s q l e ≡ true → ByDice 2 (two p s q l)
  smaller-first p q t = let r = both-steps b p s q l e t in (inr (inl (refl, r.0, inl (refl, r.1.0, r.1.1))), refl)

  larger-first : (p q : ℕ) → leads_both b p l q s e ≡ true → ByDice 2 (two p l q s)
  larger-first p q t = let r = both-steps b p l q s e t in (inl (refl, r.0, inl (refl, r.1.0, r.1.1)), refl)

  two-chosen : (p q : ℕ) → InOrder (λ d c. leads_both b p d q c e ≡ true) → ByDice 2 (two_checkers b e p q s l)
  unfolding two_checkers
  two-chosen p q h =
      by_cond (leads_both b p l q s e) _ _ (ByDice 2) (larger-first p q) (λ u.
      by_cond (leads_both b p s q l e) _ _ (ByDice 2) (smaller-first p q) (λ v.
      absurd (elim h [ inl t ↦ differ (leads_both b p s q l e) t v | inr t ↦ differ (leads_both b p l q s e) t u ])))

  one-chosen : (p : ℕ) → InOrder (λ d c. leads_both b p d (p - d) c e ≡ true) → ByDice 2 (one_checker b e p s l)
  unfolding one_checker
  one-chosen p h =
      by_cond (leads_both b p s (p - s) l e) _ _ (ByDice 2) (smaller-first p (p - s)) (λ u.
      by_cond (leads_both b p l (p - l) s e) _ _ (ByDice 2) (larger-first p (p - l)) (λ v.
      absurd (elim h [ inl t ↦ differ (leads_both b p s (p - s) l e) t u | inr t ↦ differ (leads_both b p l (p - l) s e) t v ])))

  -- where no play has two steps
  single-chosen : (p : ℕ) → (Play 2 (l ∷ s ∷ []) b e → ⊥) → (leads b p s e ≡ true) ⊎ (leads b p l e ≡ true) → ByDice 1 (one_checker b e p s l)
  unfolding one_checker
  single-chosen p n h =
      by_cond (leads_both b p s (p - s) l e) _ _ (ByDice 1)
      (λ t. let r = both-steps b p s (p - s) l e t in absurd (n (inr (inl (p, r.0, inl (p - s, r.1.0, r.1.1)))))) (λ i.
      by_cond (leads_both b p l (p - l) s e) _ _ (ByDice 1)
      (λ t. let r = both-steps b p l (p - l) s e t in absurd (n (inl (p, r.0, inl (p - l, r.1.0, r.1.1))))) (λ j.
      by_cond (leads b p s e) _ _ (ByDice 1)
      (λ t. let r = leads-step b p s e t in (inr (inl (refl, r.0, r.1)), refl)) (λ u.
      by_cond (leads b p l e) _ _ (ByDice 1)
      (λ t. let r = leads-step b p l e t in (inl (refl, r.0, r.1), refl)) (λ v.
      absurd (elim h [ inl t ↦ differ (leads b p s e) t u | inr t ↦ differ (leads b p l e) t v ])))))

  -- ---- which of them are tried

  none-lost : lost b e 26 ≡ 0 → mixed_steps b e s l ≡ []
  unfolding mixed_steps
  none-lost h = rw (eq-eqb (lost b e 26) 0 h)

  module _ (p : ℕ) (h : lost b e 26 ≡ p) (i : 0 < p) where
    one-lost : lost_next b e p ≡ 0 → mixed_steps b e s l ≡ one_checker b e p s l
    unfolding mixed_steps
    one-lost k = rw (h, ne_eqb p 0 (λ z. omega arith), eq-eqb (lost_next b e p) 0 k)

    two-lost : (q : ℕ) → lost_next b e p ≡ q → 0 < q → mixed_steps b e s l ≡ two_checkers b e p q s l
    unfolding mixed_steps
    two-lost q k j = rw (h, ne_eqb p 0 (λ z. omega arith), k, ne_eqb q 0 (λ z. omega arith))

-- ---- two steps

-- a step by d, and from at or below it one by c
record Falling (d c : ℕ) (b e : List ℤ) : Type 0 where
  p : ℕ
  q : ℕ
  below : q ≤ p
  first : can_step b p d ≡ true
  second : can_step (stepped b p d) q c ≡ true
  ends : e ≡ stepped (stepped b p d) q c

-- two steps whose origins rise are two the other way round whose origins fall
falling : (d c : ℕ) (b e : List ℤ) → Good b → Die d → Die c → Two d c b e → Falling d c b e ⊎ Falling c d b e
falling d c b e g dd dc (p, k, (q, m, z)) = elim (dec_le q p) [
  | yes h ↦ inl (record { p = p; q = q; below = h; first = k; second = m; ends = z })
  | no n ↦
      let w = swap b p d q c g dd dc (omega arith) k m in
      inr (record { p = q; q = p; below = omega arith; first = w.first; second = w.second; ends = z ∙ w.same })
]

module _ (d c : ℕ) (b e : List ℤ) (g : Good b) (dd : Die d) (dc : Die c) (f : Falling d c b e) where
  abbrev p : ℕ
  p = f.p

  abbrev q : ℕ
  q = f.q

  law : AfterTwo b e p d q c
  law = two-law g (record { first = test-legal b p d f.first; second = test-legal (stepped b p d) q c f.second; ends = f.ends })

  first-within : (0 < p) × (p ≤ 25)
  first-within = can-within b p d g f.first

  second-within : (0 < q) × (q ≤ 25)
  second-within = can-within (stepped b p d) q c (can-good b p d g f.first) f.second

  first-lost : lost b e 26 ≡ p
  first-lost = lost-mark b e p first-within.1 (mark-two dd dc f.below law)

  -- the second origin lost one too, unless the first step filled it up
  second-lost : ((q ≡ p - d) × (lost_next b e p ≡ 0)) ⊎ (lost_next b e p ≡ q)
  second-lost = elim (ℕ_discrete q p) [
    | yes z ↦
        inr (next-same b e p (omega (
          arith,
          law.x p,
          one_same p p refl,
          one_same q p z,
          reached-above p d p dd.low (omega arith),
          reached-above q c p dc.low f.below,
        )) ∙ sym z)
    | no n ↦
        let lower : q < p = omega (arith, f.below) in
        let single : xs b p ≤ xs e p + 1 = omega (arith, law.x p, one_same p p refl, one-other q p n) in
        elim (ℕ_discrete q (p - d)) [
          | yes z ↦ inl (z, next-below b e p single ∙ lost-none b e p (λ i j. filled z i j))
          | no m ↦ inr (next-below b e p single ∙ lost-at b e p q lower (emptied lower m) (λ i u v. between i u v))
        ]
  ]
    where
      filled : q ≡ p - d → (i : ℕ) → i < p → xs b i ≤ xs e i
      filled z i j =
          let k : reached p d i ≡ one q i = reached-on p d i (omega (arith, second-within)) ∙ ap (λ k. one k i) (sym z) in
          omega (arith, law.x i, one-other p i (λ y. omega arith))

      emptied : q < p → (q ≡ p - d → ⊥) → xs e q < xs b q
      emptied j m =
          let k : reached p d q ≡ 0 = elim (reached-cases p d q) [ inl z ↦ z | inr z ↦ absurd (m z.1) ] in
          omega (arith, law.x q, one-other p q (λ y. omega arith), one_same q q refl, reached-above q c q dc.low (omega arith))

      between : (i : ℕ) → q < i → i < p → xs b i ≤ xs e i
      between i u v = omega (arith, law.x i, one-other p i (λ y. omega arith), one-other q i (λ y. omega arith))

  -- so the two steps are among those tried, whichever die is the smaller
  fallen : (s l : ℕ) → ((C : ℕ → ℕ → Type 0) → C d c → InOrder b e s l C) → ByDice b e s l 2 (mixed_steps b e s l)
  fallen s l order =
      let t : leads_both b p d q c e ≡ true = steps-both b p d q c e f.first f.second f.ends in
      elim second-lost [
        | inl k ↦
            rw (one-lost b e s l p first-lost first-within.0 k.1)
            (one-chosen b e s l p (order (λ x y. leads_both b p x (p - x) y e ≡ true) (subst (λ (x : ℕ). leads_both b p d x c e ≡ true) k.0 t)))
        | inr k ↦
            rw (two-lost b e s l p first-lost first-within.0 q k second-within.0)
            (two-chosen b e s l p q (order (λ x y. leads_both b p x q y e ≡ true) t))
      ]

-- ---- one step

module _ (d : ℕ) (b e : List ℤ) (g : Good b) (dd : Die d) (p : ℕ) (k : can_step b p d ≡ true) (z : e ≡ stepped b p d) where
  one-law : AfterStep b e p d
  one-law = rw z (step-law b p d g (test-legal b p d k))

  alone-lost : lost b e 26 ≡ p
  alone-lost = lost-mark b e p (can-within b p d g k).1 (rw z (mark-step b p d g dd (test-legal b p d k)))

  none-next : lost_next b e p ≡ 0
  none-next =
      next-below b e p (omega (arith, one-law.x p, one_same p p refl))
      ∙ lost-none b e p (λ i j. omega (arith, one-law.x i, one-other p i (λ y. omega arith)))

  alone : (s l : ℕ) → (Play 2 (l ∷ s ∷ []) b e → ⊥) → ((C : ℕ → Type 0) → C d → C s ⊎ C l) → ByDice b e s l 1 (mixed_steps b e s l)
  alone s l n order =
      rw (one-lost b e s l p alone-lost (can-within b p d g k).0 none-next)
      (single-chosen b e s l p n (order (λ x. leads b p x e ≡ true) (step-leads b p d e k z)))

-- ---- as many steps as the longest play has

module _ (b e : List ℤ) (s l : ℕ) (g : Good b) (ds : Die s) (dl : Die l) where
  pub mixed-made : (n : ℕ) → Play n (l ∷ s ∷ []) b e → ((m : ℕ) → Play m (l ∷ s ∷ []) b e → m ≤ n)
      → Made (mixed_steps b e s l) (l ∷ s ∷ []) b e × (length (mixed_steps b e s l) ≡ n)
  mixed-made zero q w = rw (none-lost b e s l (lost-same b e q)) (q, refl)
  mixed-made (suc zero) a w =
      let n : Play 2 (l ∷ s ∷ []) b e → ⊥ = λ t. omega (arith, w 2 t) in
      elim (play-one s l b e a) [
        | inl o ↦ alone l b e g dl o.0 o.1 o.2 s l n (λ C h. inr h)
        | inr o ↦ alone s b e g ds o.0 o.1 o.2 s l n (λ C h. inl h)
      ]
  mixed-made (suc (suc zero)) a w = elim (play-two s l b e a) [
    | inl t ↦ fell (falling s l b e g ds dl t)
    | inr t ↦ elim (falling l s b e g dl ds t) [ inl f ↦ fell (inr f) | inr f ↦ fell (inl f) ]
  ]
    where
      fell : Falling s l b e ⊎ Falling l s b e → ByDice b e s l 2 (mixed_steps b e s l)
      fell (inl f) = fallen s l b e g ds dl f s l (λ C h. inl h)
      fell (inr f) = fallen l s b e g dl ds f s l (λ C h. inr h)
  mixed-made (suc (suc (suc n))) a w = let r : ⊥ = omega (arith, play-most (suc (suc (suc n))) (l ∷ s ∷ []) b e a) in absurd r
