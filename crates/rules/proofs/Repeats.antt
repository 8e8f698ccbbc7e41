-- Which ends of a mixed roll's second half stand in the first half already, so that a generator leaves them out and compares no boards.
--     repeat-free    x's bar empty: the end of p by the larger die, then q by the smaller is a repeat exactly where one checker uses
--                    both dice and o holds neither stopover, or where no x stands above the smaller die
--     repeat-bar     one on the bar: exactly where the checker that entered goes on and o holds neither point that it could enter on
--     repeat-full    two or more on the bar: always
--     both-free, both-bar, both-full    so the list of both dice is the first half, then the second with these left out
--     bar-alone      x on the bar: it is the one origin
--     enter-full     two or more on the bar: that is one end at most
-- Assumes nothing.
use mathlib.Core.Path.{◌≡◌, refl, sym, ap, subst, ◌∙◌}
use mathlib.Core.Logic.{◌≢◌, ◌⊎◌, ◌↔◌, inl, inr}
use mathlib.Core.Bool.{Bool, true, false, cond, ◌&&◌}
use mathlib.Core.List.{List, [], ◌∷◌, ◌++◌, append-nil}
use Prim.Native.Nat.{ℕ, zero, suc, ◌+◌, ◌-◌, ◌≤◌, ◌<◌}
use native.Mathlib.Omega.{arith}
use native.Mathlib.Decide.{ℕ_discrete, dec_lt}
use borrow.Author.Tests.{eqb-true, eq-eqb, lt-ltb, le-ltb}
use lib.Dec.{T, eqb}
use lib.IntN.{ℤ, pos, negsuc}
use lib.ListN.{length, replicate, set}
use Rattle.ints.specs.Sums.{all, one}
use Rattle.ints.proofs.Sums.{one_same, one-other}
use Rattle.ints.proofs.Tests.{and_left, and_right, and_both, by_cond}
use Rattle.position.specs.Board.{xs, os}
use Rattle.position.specs.Step.{Good, clear_from, off_from, can_step, Legal, lifted, landed, stepped}
use Rattle.position.proofs.Boards.{same-board}
use Rattle.position.proofs.Steps.{clear-yes, clear_at, off_from-exact, off_from-over, off_from-above, test-legal, legal-test, can-bar, from-within, reached, reached-on, reached-off, hits, hits-on, hits-off, AfterStep, step-law, reached-cases, reached-above, step-good}
use Rattle.rules.specs.Ends.{up, down, after, only, among, unseen, join, from_top, from_low, enter, both, In}
use Rattle.rules.specs.Omitted.{omits, unless_omitted, low_once, enter_once}
use Rattle.dice.specs.Dice.{Die}
use Rattle.rules.proofs.Marks.{Mark, marks}
use Rattle.rules.proofs.Commute.{swap-first, swap-second, swap-same}
use Rattle.rules.proofs.Lists.{Boards, Way, rising, falling, walk, SomeOf, in-walk, walk-in, in_after, after-in, among-is}

-- ---- two steps

-- steps from p by d and then from q by c lead from b to e
pub record Leads (b : List ℤ) (p d q c : ℕ) (e : List ℤ) : Type 0 where
  pub first : Legal b p d
  pub second : Legal (stepped b p d) q c
  pub ends : e ≡ stepped (stepped b p d) q c

tested : (b : List ℤ) (p d q c : ℕ) → can_step b p d ≡ true → can_step (stepped b p d) q c ≡ true
    → Leads b p d q c (stepped (stepped b p d) q c)
tested b p d q c m n = record { first = test-legal b p d m; second = test-legal (stepped b p d) q c n; ends = refl }

second-within : {b e : List ℤ} {p d q c : ℕ} → Good b → Leads b p d q c e → (0 < q) × (q ≤ 25)
second-within {b} {p = p} {d} {q} g m = from-within (stepped b p d) q (step-good b p d g m.first) m.second.has

-- each entry above o's bar of the board e after steps from p by d and from q by c on b
pub record AfterTwo (b e : List ℤ) (p d q c : ℕ) : Type 0 where
  pub x : (i : ℕ) → xs e i + one p i + one q i ≡ xs b i + reached p d i + reached q c i
  pub o : (i : ℕ) → 0 < i → os e i ≡ os b i - reached p d i - reached q c i

pub two-law : {b e : List ℤ} {p d q c : ℕ} → Good b → Leads b p d q c e → AfterTwo b e p d q c
two-law {b} {p = p} {d} {q} {c} g m =
    let v = step-law b p d g m.first in
    let w = step-law (stepped b p d) q c (step-good b p d g m.first) m.second in
    rw m.ends (record { x = λ i. omega (arith, v.x i, w.x i); o = λ i h. omega (arith, v.o i h, w.o i h) })

-- ---- from an end back to the steps

-- the first of two falling origins is the highest entry that lost an x
pub mark-two : {b e : List ℤ} {p d q c : ℕ} → Die d → Die c → q ≤ p → AfterTwo b e p d q c → Mark b e p
mark-two {p = p} {d} {q} {c} dd dc h w = record {
  less = omega (arith, w.x p, one_same p p refl, reached-above p d p dd.low (omega arith), reached-above q c p dc.low h);
  above = λ i k.
      omega (
        arith,
        w.x i,
        one-other p i (λ z. omega arith),
        one-other q i (λ z. omega arith),
        reached-above p d i dd.low (omega arith),
        reached-above q c i dc.low (omega arith),
      );
}

first-same : {b e : List ℤ} {p r : ℕ} → Mark b e p → Mark b e r → p ≡ r
first-same {b} {e} {p} {r} m n = elim (ℕ_discrete p r) [
  | yes z ↦ z
  | no z ↦ absurd (elim (dec_lt p r) [ yes h ↦ marks b e p r h m n | no h ↦ marks b e r p (omega arith) n m ])
]

-- p by d, then q by c and p by c, then r by d have one end: r is where c took the checker from p, and o is not there
stopover : {b e : List ℤ} {p d q c r : ℕ} → c ≢ d → q ≢ p → AfterTwo b e p d q c → AfterTwo b e p c r d → c < p
    → (r ≡ p - c) × (os b (p - c) ≡ 0)
stopover {b} {p = p} {d} {q} {c} {r} ne nq v w h = (
  elim (ℕ_discrete r (p - c)) [
    | yes z ↦ z
    | no n ↦ omega (arith, v.x (p - c), w.x (p - c), here, by-d, by-c, one-other r (p - c) n)
  ],
  omega (arith, v.o (p - c) (omega arith), w.o (p - c) (omega arith), here, by-d, by-c),
)
  where
    here : reached p c (p - c) ≡ 1
    here = reached-on p c (p - c) h ∙ one_same (p - c) (p - c) refl

    by-d : reached p d (p - c) ≡ 0
    by-d = elim (reached-cases p d (p - c)) [ inl z ↦ z | inr z ↦ let k : ⊥ = ne (omega arith) in absurd k ]

    by-c : reached q c (p - c) ≡ 0
    by-c = elim (reached-cases q c (p - c)) [ inl z ↦ z | inr z ↦ let k : ⊥ = nq (omega arith) in absurd k ]

-- the same both ways, where both dice leave the checker on the board: one checker uses both dice
stopovers : {b e : List ℤ} {p d q c r : ℕ} → Die c → c ≢ d → q ≢ p → AfterTwo b e p d q c → AfterTwo b e p c r d → c < p → d < p
    → (q ≡ p - d) × (os b (p - d) ≡ 0) × (os b (p - c) ≡ 0)
stopovers dc ne nq v w h k =
    let i = stopover ne nq v w h in
    let j = stopover (λ z. ne (sym z)) (λ z. omega (arith, dc.low)) w v k in
    (j.0, j.1, i.1)

-- ---- one checker by both dice, in the other order

-- where it ends
reached-through : (p d c i : ℕ) → reached (p - d) c i ≡ reached (p - c) d i
reached-through p d c i = elim (dec_lt (d + c) p) [
  | yes h ↦
      let z : p - d - c ≡ p - c - d = omega arith in
      reached-on (p - d) c i (omega arith) ∙ ap (λ k. one k i) z ∙ sym (reached-on (p - c) d i (omega arith))
  | no n ↦ reached-off (p - d) c i (omega arith) ∙ sym (reached-off (p - c) d i (omega arith))
]

-- a step to a point where no o stands leaves o as it is
o-same : (b : List ℤ) (p d : ℕ) → Good b → Legal b p d → d < p → os b (p - d) ≡ 0 → (i : ℕ) → os (stepped b p d) i ≡ os b i
o-same b p d g m h k i =
    let w = step-law b p d g m in
    elim (ℕ_discrete i 0) [
      | yes z ↦ rw z (omega (arith, w.bar, hits-on b p d h))
      | no n ↦ elim (ℕ_discrete (p - d) i) [
        | yes z ↦ let u = ap (os b) z in omega (arith, w.o i (omega arith))
        | no u ↦ omega (arith, w.o i (omega arith), reached-on p d i h, one-other (p - d) i u)
      ]
    ]

-- o holds neither stopover; where the dice bear the checker off, c is the smaller: the new order's last step starts higher, so fewer points must be clear
module _
    (b e : List ℤ) (p d c : ℕ) (g : Good b) (dd : Die d) (dc : Die c) (hd : d < p) (hc : c < p) (od : os b (p - d) ≡ 0) (oc : os b (p - c) ≡ 0)
    (off : p ≤ d + c → c < d) (m : Leads b p d (p - d) c e)
  where
    by-d : AfterStep b (stepped b p d) p d
    by-d = step-law b p d g m.first

    d-then-c : AfterStep (stepped b p d) (stepped (stepped b p d) (p - d) c) (p - d) c
    d-then-c = step-law (stepped b p d) (p - d) c (step-good b p d g m.first) m.second

    o-by-d : (i : ℕ) → os (stepped b p d) i ≡ os b i
    o-by-d = o-same b p d g m.first hd od

    through-first : Legal b p c
    through-first = record { has = m.first.has; bar = m.first.bar; on = λ h. omega arith; off = λ h. absurd (omega arith) }

    by-c : AfterStep b (stepped b p c) p c
    by-c = step-law b p c g through-first

    o-by-c : (i : ℕ) → os (stepped b p c) i ≡ os b i
    o-by-c = o-same b p c g through-first hc oc

    within : (0 < p) × (p ≤ 25)
    within = from-within b p g m.first.has

    -- past both stopovers
    one_end : p - c - d ≡ p - d - c
    one_end = omega arith

    through-second : Legal (stepped b p c) (p - c) d
    through-second = record {
      has =
          omega (arith, by-c.x (p - c), reached-on p c (p - c) hc, one_same (p - c) (p - c) refl, one-other p (p - c) (λ z. omega (arith, dc.low)));
      bar = λ h.
          omega (
            arith,
            m.second.bar (omega (arith, within, dd.low)),
            by-d.x 25,
            by-c.x 25,
            reached-above p d 25 dd.low within.1,
            reached-above p c 25 dc.low within.1,
          );
      on = λ h. omega (arith, m.second.on (omega arith), o-by-d (p - d - c), o-by-c (p - c - d), ap (os b) one_end);
      off = λ h i k j.
          omega (
            arith,
            by-d.x i,
            by-c.x i,
            m.second.off (omega arith) i (lower h i k) j,
            reached-on p c i hc,
            one-other (p - c) i (λ z. omega (arith, off_from-above (p - c) d h dd.high)),
          );
    }
      where
        lower : p - c ≤ d → (i : ℕ) → off_from (p - c) d ≤ i → off_from (p - d) c ≤ i
        lower h i k = elim (ℕ_discrete (p - c) d) [
          | yes z ↦ omega (arith, off_from-exact (p - c) d z, off_from-exact (p - d) c (omega arith))
          | no u ↦ omega (arith, off (omega arith), off_from-over (p - c) d (omega arith), off_from-over (p - d) c (omega arith))
        ]

    c-then-d : AfterStep (stepped b p c) (stepped (stepped b p c) (p - c) d) (p - c) d
    c-then-d = step-law (stepped b p c) (p - c) d (step-good b p c g through-first) through-second

    -- what the checker hits where it ends
    hits-through : hits (stepped b p d) (p - d) c ≡ hits (stepped b p c) (p - c) d
    hits-through = elim (dec_lt (d + c) p) [
      | yes h ↦
          omega (
            arith,
            hits-on (stepped b p d) (p - d) c (omega arith),
            hits-on (stepped b p c) (p - c) d (omega arith),
            o-by-d (p - d - c),
            o-by-c (p - c - d),
            ap (os b) one_end,
          )
      | no u ↦ hits-off (stepped b p d) (p - d) c (omega arith) ∙ sym (hits-off (stepped b p c) (p - c) d (omega arith))
    ]

    through_same : stepped (stepped b p d) (p - d) c ≡ stepped (stepped b p c) (p - c) d
    through_same =
        same-board (stepped (stepped b p d) (p - d) c) (stepped (stepped b p c) (p - c) d) (d-then-c.size ∙ sym c-then-d.size)
        (λ i. (x i, o i))
      where
        x : (i : ℕ) → xs (stepped (stepped b p d) (p - d) c) i ≡ xs (stepped (stepped b p c) (p - c) d) i
        x i = omega (arith, by-d.x i, by-c.x i, d-then-c.x i, c-then-d.x i, reached-on p d i hd, reached-on p c i hc, reached-through p d c i)

        o : (i : ℕ) → os (stepped (stepped b p d) (p - d) c) i ≡ os (stepped (stepped b p c) (p - c) d) i
        o i = elim (ℕ_discrete 0 i) [
          | yes z ↦ rw (← z) (omega (arith, o-by-d 0, o-by-c 0, d-then-c.bar, c-then-d.bar, hits-through))
          | no u ↦
              omega (arith, o-by-d i, o-by-c i, d-then-c.o i (omega arith), c-then-d.o i (omega arith), reached-through p d c i)
        ]

    through : Leads b p c (p - c) d e
    through = record { first = through-first; second = through-second; ends = m.ends ∙ through_same }

-- ---- bearing off

-- a checker that a die bears off from below its number is borne off by any die that reaches as far
off-any : {b : List ℤ} {p d : ℕ} (c : ℕ) → Die c → p < d → p ≤ c → Legal b p d → Legal b p c
off-any {p = p} {d} c dc h k m = record {
  has = m.has;
  bar = m.bar;
  on = λ j. absurd (omega arith);
  off = λ j i u. m.off (omega arith) i (omega (arith, off_from-over p d h, off_from-above p c k dc.high));
}

-- which die bore a checker off leaves no trace
off-same : (b : List ℤ) (p d c : ℕ) → p ≤ d → p ≤ c → stepped b p d ≡ stepped b p c
unfolding stepped
off-same b p d c h k = rw (le-ltb d p h, le-ltb c p k)

-- two checkers from at or below the smaller die c
off-both : {b e : List ℤ} {p d q c : ℕ} → Die d → Die c → c < d → p ≤ c → q < p → Leads b p d q c e → Leads b p c q d e
off-both {b} {e} {p} {d} {q} {c} dd dc h k j m =
    let z : stepped b p d ≡ stepped b p c = off-same b p d c (omega arith) k in
    record {
      first = off-any c dc (omega arith) k m.first;
      second = off-any d dd (omega arith) (omega arith) (subst (λ (a : List ℤ). Legal a q c) z m.second);
      ends = m.ends ∙ ap (λ a. stepped a q c) z ∙ off-same (stepped b p c) q c d (omega arith) (omega arith);
    }

-- ---- the ends after a step from p by d, then one by c from 1 to n

module _ (v : Way) (b : List ℤ) (p d n c : ℕ) (e : List ℤ) where
  in_then : In e (after b d (λ a. walk v n (after a c only)) p) → SomeOf n (λ q. Leads b p d q c e)
  in_then m =
      let r = in_after b d (λ a. walk v n (after a c only)) p e m in
      let t = in-walk v e n (after (stepped b p d) c only) r.1 in
      let k = in_after (stepped b p d) c only t.0 e t.3 in (
        t.0,
        t.1,
        t.2,
        record {
          first = test-legal b p d r.0;
          second = test-legal (stepped b p d) t.0 c k.0;
          ends = elim k.1 [ inl z ↦ z | inr z ↦ absurd z ];
        },
      )

  then-in : p ≤ 25 → n ≤ 25 → (q : ℕ) → 0 < q → q ≤ n → Leads b p d q c e → In e (after b d (λ a. walk v n (after a c only)) p)
  then-in i j q h k m =
      after-in b d (λ a. walk v n (after a c only)) p e (legal-test b p d i m.first)
      (walk-in v e n (after (stepped b p d) c only) q h k
      (after-in (stepped b p d) c only q e (legal-test (stepped b p d) q c (omega arith) m.second) (inl m.ends)))

-- ---- the test of a repeat as facts

pub omits-is : (b : List ℤ) (d c p q : ℕ) → (omits b d c p q ≡ true) ↔ ((q ≡ p - d) × (os b (p - d) ≡ 0) × (os b (p - c) ≡ 0))
unfolding omits
omits-is b d c p q = (told, tells)
  where
    here : Bool
    here = eqb q (p - d)

    one-stop : Bool
    one-stop = eqb (os b (p - d)) 0

    other-stop : Bool
    other-stop = eqb (os b (p - c)) 0

    told : here && one-stop && other-stop ≡ true → (q ≡ p - d) × (os b (p - d) ≡ 0) × (os b (p - c) ≡ 0)
    told t =
        let u = and_left (here && one-stop) other-stop t in (
          eqb-true q (p - d) (and_left here one-stop u),
          eqb-true (os b (p - d)) 0 (and_right here one-stop u),
          eqb-true (os b (p - c)) 0 (and_right (here && one-stop) other-stop t),
        )

    tells : (q ≡ p - d) × (os b (p - d) ≡ 0) × (os b (p - c) ≡ 0) → here && one-stop && other-stop ≡ true
    tells f =
        and_both (here && one-stop) other-stop
        (and_both here one-stop (eq-eqb q (p - d) f.0) (eq-eqb (os b (p - d)) 0 f.1)) (eq-eqb (os b (p - c)) 0 f.2)

-- ---- a list without repeats of another, part by part

unseen-append : (seen l r : Boards) → unseen seen (l ++ r) ≡ unseen seen l ++ unseen seen r
unseen-append seen [] r = refl
unseen-append seen (c ∷ l) r = go (among c seen) (unseen-append seen l r)
  where
    go : (t : Bool) → unseen seen (l ++ r) ≡ unseen seen l ++ unseen seen r
        → cond t (unseen seen (l ++ r)) (c ∷ unseen seen (l ++ r)) ≡ cond t (unseen seen l) (c ∷ unseen seen l) ++ unseen seen r
    go true z = z
    go false z = ap (λ k. c ∷ k) z

unseen-up : (seen : Boards) (n : ℕ) (f k : ℕ → Boards) → ((p : ℕ) → 0 < p → p ≤ n → unseen seen (f p) ≡ k p) → unseen seen (up n f) ≡ up n k
unseen-up seen zero f k h = refl
unseen-up seen (suc n) f k h =
    let u : unseen seen (up n f) ≡ up n k = unseen-up seen n f k (λ p i j. h p i (omega arith)) in
    let v : unseen seen (f (suc n)) ≡ k (suc n) = h (suc n) (omega arith) (omega arith) in
    unseen-append seen (up n f) (f (suc n)) ∙ rw (u, v)

unseen-after : (seen : Boards) (b : List ℤ) (d : ℕ) (f k : List ℤ → Boards) (p : ℕ)
    → (can_step b p d ≡ true → unseen seen (f (stepped b p d)) ≡ k (stepped b p d)) → unseen seen (after b d f p) ≡ after b d k p
unfolding after
unseen-after seen b d f k p h = go (can_step b p d) refl
  where
    go : (t : Bool) → can_step b p d ≡ t → unseen seen (cond t (f (stepped b p d)) []) ≡ cond t (k (stepped b p d)) []
    go true z = h z
    go false z = refl

-- where all of it repeats
unseen-none : (seen l : Boards) → ((e : List ℤ) → In e l → In e seen) → unseen seen l ≡ []
unseen-none seen [] h = refl
unseen-none seen (c ∷ l) h = rw ((among-is c seen).1 (h c (inl refl))) (unseen-none seen l (λ e m. h e (inr m)))

same_test : (t u : Bool) → (t ≡ true → u ≡ true) → (u ≡ true → t ≡ true) → t ≡ u
same_test true u f k = sym (f refl)
same_test false true f k = k refl
same_test false false f k = refl

-- the second steps, where the test tells which ends repeat
unseen-omitted : (seen : Boards) (b : List ℤ) (d c p : ℕ) (a : List ℤ) (n : ℕ)
    → ((q : ℕ) → q ≤ n → can_step a q c ≡ true → In (stepped a q c) seen ↔ (omits b d c p q ≡ true))
    → unseen seen (up n (after a c only)) ≡ up n (unless_omitted b d c p a)
unfolding unless_omitted
unseen-omitted seen b d c p a n h = unseen-up seen n (after a c only) (unless_omitted b d c p a) (λ q i j. each q j (can_step a q c) refl)
  where
    each : (q : ℕ) → q ≤ n → (t : Bool) → can_step a q c ≡ t
        → unseen seen (cond t (only (stepped a q c)) []) ≡ cond (omits b d c p q) [] (cond t (only (stepped a q c)) [])
    each q j true z =
        let e = stepped a q c in
        let f = h q j z in
        let i = among-is e seen in
        let k : among e seen ≡ omits b d c p q = same_test (among e seen) (omits b d c p q) (λ u. f.0 (i.0 u)) (λ u. i.1 (f.1 u)) in
        rw k
    each q j false z = by_cond {A = Boards} (omits b d c p q) [] [] (λ k. [] ≡ k) (λ u. refl) (λ u. refl)

-- ---- x's bar empty

module _ (b : List ℤ) (s l : ℕ) (g : Good b) (ds : Die s) (dl : Die l) (lt : s < l) where
  -- the parts of the two halves, by their first origin
  abbrev top_from : ℕ → Boards
  top_from p = after b s (λ c. down p (after c l only)) p

  abbrev low_from : ℕ → Boards
  low_from p = after b l (λ c. up (p - 1) (after c s only)) p

  abbrev low_once_from : ℕ → Boards
  low_once_from p = after b l (λ c. up (p - 1) (unless_omitted b l s p c)) p

  module _ {e : List ℤ} {p q : ℕ} (h : q < p) (m : Leads b p l q s e) where
    -- p, then r is the smaller-first play to the same end
    same_end : (r : ℕ) → AfterTwo b e p s r l → (omits b l s p q ≡ true) ⊎ (clear_from b (s + 1) ≡ true)
    same_end r w = go (dec_lt s p) (dec_lt l p)
      where
        v : AfterTwo b e p l q s
        v = two-law g m

        go : Dec (s < p) → Dec (l < p) → (omits b l s p q ≡ true) ⊎ (clear_from b (s + 1) ≡ true)
        go (yes i) (yes j) = inl ((omits-is b l s p q).1 (stopovers ds (λ z. omega arith) (λ z. omega arith) v w i j))
        -- the checker from p goes off by the smaller die and then the larger, so smaller-first x loses none from q
        go (yes i) (no j) =
            let z : r ≡ p - s = (stopover (λ z. omega arith) (λ z. omega arith) v w i).0 in
            let k : ⊥ =
            omega (
              arith,
              v.x q,
              w.x q,
              one_same q q refl,
              ap (λ k. one k q) z,
              reached-off p l q (omega arith),
              reached-above q s q ds.low (omega arith),
              reached-on p s q i,
              reached-off r l q (omega arith),
            ) in
            absurd k
        go (no i) j =
            inr (clear-yes b (s + 1) (λ k u. m.first.off (omega arith) k (omega (arith, off_from-over p l (omega arith)))))

    listed-rule : In e (from_top b s l) → (omits b l s p q ≡ true) ⊎ (clear_from b (s + 1) ≡ true)
    unfolding from_top
    listed-rule k =
        let r = in-walk falling e 24 top_from k in
        let t = in_then falling b r.0 s r.0 l e r.3 in
        let w : AfterTwo b e r.0 s t.0 l = two-law g t.3 in
        let z : r.0 ≡ p = first-same (mark-two ds dl t.2 w) (mark-two dl ds (omega arith) (two-law g m)) in
        same_end t.0 (subst (λ (i : ℕ). AfterTwo b e i s t.0 l) z w)

    module _ (free : xs b 25 ≡ 0) where
      first-within : (0 < p) × (p ≤ 24)
      first-within =
          let has : 0 < xs b p = m.first.has in
          let w = from-within b p g has in
          (w.0, elim (ℕ_discrete p 25) [ yes z ↦ let k = ap (xs b) z in omega arith | no z ↦ omega arith ])

      in_top : (r : ℕ) → 0 < r → r ≤ p → Leads b p s r l e → In e (from_top b s l)
      unfolding from_top
      in_top r i j t =
          let w = first-within in
          walk-in falling e 24 top_from p w.0 w.1 (then-in falling b p s p l e (omega arith) (omega arith) r i j t)

      rule-listed : (omits b l s p q ≡ true) ⊎ (clear_from b (s + 1) ≡ true) → In e (from_top b s l)
      rule-listed (inl t) =
          let f = (omits-is b l s p q).0 t in
          let i : l < p = omega (arith, second-within g m) in
          in_top (p - s) (omega arith) (omega arith)
          (through b e p l s g dl ds i (omega arith) f.1 f.2 (λ k. lt) (subst (λ (k : ℕ). Leads b p l k s e) f.0 m))
      rule-listed (inr t) = in_top q (second-within g m).0 (omega arith) (off-both dl ds lt (low (dec_lt s p)) h m)
        where
          low : Dec (s < p) → p ≤ s
          low (yes i) = omega (arith, clear_at b (s + 1) t p (omega arith) (omega (arith, first-within)), m.first.has)
          low (no i) = omega arith

  module _ (free : xs b 25 ≡ 0) where
    pub repeat-free : (p q : ℕ) → q < p → can_step b p l ≡ true → can_step (stepped b p l) q s ≡ true
        → In (stepped (stepped b p l) q s) (from_top b s l) ↔ ((omits b l s p q ≡ true) ⊎ (clear_from b (s + 1) ≡ true))
    repeat-free p q h m n = let t = tested b p l q s m n in (listed-rule h t, rule-listed h t free)

    low-once : unseen (from_top b s l) (from_low b l s) ≡ low_once b l s
    unfolding from_low low_once
    low-once = go (clear_from b (s + 1)) refl
      where
        go : (t : Bool) → clear_from b (s + 1) ≡ t → unseen (from_top b s l) (up 24 low_from) ≡ cond t [] (up 24 low_once_from)
        go true z = unseen-none (from_top b s l) (up 24 low_from) (λ e k.
            let r = in-walk rising e 24 low_from k in
            let t = in_then rising b r.0 l (r.0 - 1) s e r.3 in
            rule-listed (omega (arith, r.1, t.2)) t.3 free (inr z))
        go false z = unseen-up (from_top b s l) 24 low_from low_once_from (λ p i j.
            unseen-after (from_top b s l) b l (λ c. up (p - 1) (after c s only)) (λ c. up (p - 1) (unless_omitted b l s p c)) p (λ m.
            unseen-omitted (from_top b s l) b l s p (stepped b p l) (p - 1) (λ q u n.
            let f = repeat-free p q (omega arith) m n in
            ((λ k. elim (f.0 k) [ inl v ↦ v | inr v ↦ absurd (subst T (sym v ∙ z) tt) ]), λ k. f.1 (inl k)))))

    pub both-free : both b s l ≡ from_top b s l ++ low_once b l s
    unfolding both join
    both-free = rw (le-ltb 0 (xs b 25) (omega arith), both) (ap (λ r. from_top b s l ++ r) low-once)

-- ---- x on the bar

-- one of them has entered
bar-left : (b : List ℤ) (d : ℕ) → Good b → Die d → Legal b 25 d → xs (stepped b 25 d) 25 + 1 ≡ xs b 25
bar-left b d g dd m = omega (arith, (step-law b 25 d g m).x 25, one_same 25 25 refl, reached-above 25 d 25 dd.low (omega arith))

module _ (b : List ℤ) (s l : ℕ) (g : Good b) (ds : Die s) (dl : Die l) (lt : s < l) where
  module _ {e : List ℤ} {q : ℕ} (m : Leads b 25 s q l e) where
    left : xs (stepped b 25 s) 25 + 1 ≡ xs b 25
    left = bar-left b s g ds m.first

    in-enter : (r : ℕ) → 0 < r → r ≤ 25 → Leads b 25 l r s e → In e (enter b l s)
    unfolding enter
    in-enter r i j t = then-in rising b 25 l 25 s e (omega arith) (omega arith) r i j t

    entered-rule : xs b 25 ≡ 1 → In e (enter b l s) → omits b s l 25 q ≡ true
    unfolding enter
    entered-rule h k =
        let t = in_then rising b 25 l 25 s e k in
        let u : q ≢ 25 = λ z. omega (arith, ap (xs (stepped b 25 s)) z, m.second.has, left) in
        (omits-is b s l 25 q).1 (stopovers dl (λ z. omega arith) u (two-law g m) (two-law g t.3) (omega (arith, dl.high)) (omega (arith, ds.high)))

    rule-entered : omits b s l 25 q ≡ true → In e (enter b l s)
    rule-entered k =
        let f = (omits-is b s l 25 q).0 k in
        let i : s < 25 = omega (arith, ds.high) in
        let j : l < 25 = omega (arith, dl.high) in
        in-enter (25 - l) (omega arith) (omega arith)
        (through b e 25 s l g ds dl i j f.1 f.2 (λ h. omega (arith, ds.high, dl.high)) (subst (λ (k : ℕ). Leads b 25 s k l e) f.0 m))

    -- a second checker on the bar is the one origin left
    full-entered : 2 ≤ xs b 25 → In e (enter b l s)
    full-entered h =
        let z : q ≡ 25 = elim (ℕ_discrete q 25) [
          | yes z ↦ z
          | no z ↦ omega (arith, left, m.second.bar (omega (arith, second-within g m)))
        ] in
        let t : Leads b 25 s 25 l e = subst (λ (k : ℕ). Leads b 25 s k l e) z m in
        let i : 25 ≤ 25 = omega arith in
        in-enter 25 (omega arith) i (record {
          first = swap-first b 25 s 25 l g ds dl i t.first t.second;
          second = swap-second b 25 s 25 l g ds dl i t.first t.second;
          ends = t.ends ∙ swap-same b 25 s 25 l g ds dl i t.first t.second;
        })

  pub repeat-bar : xs b 25 ≡ 1 → (q : ℕ) → can_step b 25 s ≡ true → can_step (stepped b 25 s) q l ≡ true
      → In (stepped (stepped b 25 s) q l) (enter b l s) ↔ (omits b s l 25 q ≡ true)
  repeat-bar h q m n = let t = tested b 25 s q l m n in (entered-rule t h, rule-entered t)

  pub repeat-full : 2 ≤ xs b 25 → (e : List ℤ) → In e (enter b s l) → In e (enter b l s)
  unfolding enter
  repeat-full h e k = full-entered (in_then rising b 25 s 25 l e k).3 h

  both-entered : 0 < xs b 25 → both b s l ≡ enter b l s ++ unseen (enter b l s) (enter b s l)
  unfolding both join
  both-entered h = rw (lt-ltb 0 (xs b 25) h, both)

  pub both-bar : xs b 25 ≡ 1 → both b s l ≡ enter b l s ++ enter_once b s l
  unfolding enter enter_once
  both-bar h =
      both-entered (omega arith)
      ∙ ap (λ r. enter b l s ++ r)
      (unseen-after (enter b l s) b s (λ c. up 25 (after c l only)) (λ c. up 25 (unless_omitted b s l 25 c)) 25 (λ m.
      unseen-omitted (enter b l s) b s l 25 (stepped b 25 s) 25 (λ q i n. repeat-bar h q m n)))

  pub both-full : 2 ≤ xs b 25 → both b s l ≡ enter b l s
  both-full h =
      both-entered (omega arith)
      ∙ ap (λ r. enter b l s ++ r) (unseen-none (enter b l s) (enter b s l) (repeat-full h))
      ∙ append-nil (enter b l s)

-- with x on the bar it is the one origin
pub bar-alone : (a : List ℤ) (c : ℕ) → 0 < xs a 25 → up 25 (after a c only) ≡ after a c only 25
unfolding after
bar-alone a c i = rw (none 24 (omega arith))
  where
    none : (n : ℕ) → n < 25 → up n (after a c only) ≡ []
    none zero j = refl
    none (suc n) j = rw (none n (omega arith), can-bar a (suc n) c (λ z. omega arith) i)

-- with two or more on the bar that is one end at most, both dice entered
pub enter-full : (b : List ℤ) (d c : ℕ) → Good b → Die d → 2 ≤ xs b 25 → enter b d c ≡ after b d (λ a. after a c only 25) 25
unfolding enter
enter-full b d c g dd h = go (can_step b 25 d) refl
  where
    go : (t : Bool) → can_step b 25 d ≡ t → cond t (up 25 (after (stepped b 25 d) c only)) [] ≡ cond t (after (stepped b 25 d) c only 25) []
    go true z = bar-alone (stepped b 25 d) c (omega (arith, bar-left b d g dd (test-legal b 25 d z)))
    go false z = refl

-- ---- tried: how many ends the first half has, the second, and the second without repeats

halves : List ℤ → ℕ → ℕ → List ℕ
halves b s l = length (from_top b s l) ∷ length (from_low b l s) ∷ length (low_once b l s) ∷ []

bar_halves : List ℤ → ℕ → ℕ → List ℕ
bar_halves b s l = length (enter b l s) ∷ length (enter b s l) ∷ length (enter_once b s l) ∷ []

-- x's lone checker on p, o's on r
lone : ℕ → ℕ → List ℤ
lone p r = set (set (replicate 26 (pos 0)) p (pos 1)) r (negsuc 0)

-- document 01, "Boards to try", 7 and 8 (o on a stopover, and on none), and the same from the bar; then x on 4 and 2, dice 6-5,
-- which repeats without a stopover
tried :
    (halves (lone 13 12) 1 2 ≡ 1 ∷ 1 ∷ 1 ∷ []) × (halves (lone 13 20) 1 2 ≡ 1 ∷ 1 ∷ 0 ∷ []) × (bar_halves (lone 25 24) 1 2 ≡ 1 ∷ 1 ∷ 1 ∷ [])
    × (bar_halves (lone 25 12) 1 2 ≡ 1 ∷ 1 ∷ 0 ∷ []) × (halves (set (lone 4 22) 2 (pos 1)) 5 6 ≡ 1 ∷ 1 ∷ 0 ∷ [])
unfolding halves bar_halves lone from_top from_low low_once enter enter_once can_step clear_from off_from all stepped lifted landed
tried = (refl, refl, refl, refl, refl)
