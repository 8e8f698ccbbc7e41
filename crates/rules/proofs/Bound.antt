-- How many ends there are. On any board and with any numbers for dice: at least one and at most 17,550, of a mixed roll at most 576.
-- Of a mixed roll with two or more of x on the bar: one.
-- Assumes nothing.
use mathlib.Core.Path.{◌≡◌, refl, sym, ap, subst, ◌∙◌}
use mathlib.Core.Logic.{◌≢◌, inl, inr}
use mathlib.Core.Bool.{true}
use mathlib.Core.List.{List, [], ◌∷◌}
use Prim.Native.Nat.{ℕ, zero, suc, ◌+◌, ◌-◌, ◌≤◌, ◌<◌, min, max}
use native.Mathlib.Omega.{arith}
use lib.Dec.{eqb, ltb}
use lib.IntN.{ℤ}
use lib.ListN.{length, length-append}
use Rattle.ints.specs.Sums.{sum_to}
use Rattle.ints.proofs.Sums.{one_same}
use Rattle.ints.proofs.Tests.{lt-or-le, by_cond}
use Rattle.position.specs.Board.{xs}
use Rattle.position.specs.Step.{Good, can_step, stepped}
use Rattle.position.proofs.Steps.{test-legal, step-law}
use Rattle.rules.specs.Plays.{LegalEnd}
use Rattle.rules.specs.Ends.{up, down, after, only, among, unseen, join, or_else, doubles, most, from_top, from_low, enter, both, single, mixed, ends_of, In, Once}
use Rattle.dice.specs.Dice.{Die}
use Rattle.rules.proofs.Dice.{smaller-die, larger-die, mixed-list}
use Rattle.rules.proofs.Lists.{Boards, Way, rising, falling, walk, or_else-keeps}
use Rattle.rules.proofs.Two.{One, Two, can-good, from-bar}
use Rattle.rules.proofs.Commute.{swap}
use Rattle.rules.proofs.Mixed.{ones, pairs, once-ones, Pair, mixed-keeps, in_both, once-both, in-single}
use Rattle.rules.proofs.Exact.{exact}

-- ---- the parts

length-walk : (w : Way) (n : ℕ) (f : ℕ → Boards) (g : ℕ → ℕ) → ((p : ℕ) → p ≤ n → length (f p) ≤ g p)
    → length (walk w n f) ≤ sum_to (λ p. g (suc p)) n
unfolding sum_to
length-walk rising zero f g h = omega arith
length-walk rising (suc n) f g h =
    omega (arith, length-append (up n f) (f (suc n)), length-walk rising n f g (λ p q. h p (omega arith)), h (suc n) (omega arith))
length-walk falling zero f g h = omega arith
length-walk falling (suc n) f g h =
    omega (arith, length-append (f (suc n)) (down n f), length-walk falling n f g (λ p q. h p (omega arith)), h (suc n) (omega arith))

length-after : (b : List ℤ) (d : ℕ) (k : List ℤ → Boards) (p n : ℕ) → (can_step b p d ≡ true → length (k (stepped b p d)) ≤ n) → length (after b d k p) ≤ n
unfolding after
length-after b d k p n h = by_cond (can_step b p d) (k (stepped b p d)) [] (λ l. length l ≤ n) h (λ q. omega arith)

length-unseen : (seen l : Boards) → length (unseen seen l) ≤ length l
length-unseen seen [] = omega arith
length-unseen seen (c ∷ l) =
    let k = length-unseen seen l in
    by_cond (among c seen) (unseen seen l) (c ∷ unseen seen l) (λ m. length m ≤ suc (length l)) (λ q. omega arith) (λ q. omega arith)

length-join : (l r : Boards) → length (join l r) ≤ length l + length r
unfolding join
length-join l r = omega (arith, length-append l (unseen l r), length-unseen l r)

-- ---- a double

-- how many ways there are to choose k of the numbers 1 to n, repeats allowed
choices : ℕ → ℕ → ℕ
unfolding sum_to
choices zero n = 1
choices (suc k) n = sum_to (λ p. choices k (suc p)) n

length-doubles : (d k top : ℕ) (b : List ℤ) → length (doubles d k top b) ≤ choices k top
unfolding doubles choices
length-doubles d zero top b = omega arith
length-doubles d (suc k) top b =
    length-walk rising top (λ p. after b d (doubles d k p) p) (choices k)
    (λ p h. length-after b d (doubles d k p) p (choices k p) (λ t. length-doubles d k p (stepped b p d)))

-- the origins are 24 points, or the bar alone
length-turn : (d k : ℕ) (b : List ℤ) → length (doubles d k 25 b) ≤ choices k 24
unfolding doubles choices sum_to
length-turn d zero b = omega arith
length-turn d (suc k) b = elim (lt-or-le 0 (xs b 25)) [
  | inl h ↦
      omega (
        arith,
        length-append (up 24 f) (f 25),
        length-walk rising 24 f (λ p. 0) (λ p q. length-after b d (doubles d k p) p 0 (λ t. omega (arith, (test-legal b p d t).bar (omega arith)))),
        length-after b d (doubles d k 25) 25 (choices k 24) (λ t. length-turn d k (stepped b 25 d)),
      )
  | inr h ↦
      omega (
        arith,
        length-append (up 24 f) (f 25),
        length-doubles d (suc k) 24 b,
        length-after b d (doubles d k 25) 25 0 (λ t. omega (arith, (test-legal b 25 d t).has)),
      )
]
  where
    f : ℕ → Boards
    f p = after b d (doubles d k p) p

-- more steps have more ways
choices-more : (k n : ℕ) → choices k (suc n) ≤ choices (suc k) (suc n)
unfolding choices sum_to
choices-more k n = omega arith

length_most : (d : ℕ) (b : List ℤ) (k : ℕ) → length (most d b k) ≤ choices k 24
unfolding most choices
length_most d b zero = omega arith
length_most d b (suc k) =
    or_else-keeps (λ m. length m ≤ choices (suc k) 24) (doubles d (suc k) 25 b) (most d b k) (length-turn d (suc k) b)
    (omega (arith, length_most d b k, choices-more k 23))

-- four of 24 points
four : choices 4 24 ≡ 17550
unfolding choices sum_to
four = refl

choices-at-most : (k j : ℕ) → choices j 24 ≤ choices (k + j) 24
choices-at-most zero j = let e : 0 + j ≡ j = omega arith in rw e (omega arith)
choices-at-most (suc k) j = let e : suc k + j ≡ suc (k + j) = omega arith in rw e (omega (arith, choices-at-most k j, choices-more (k + j) 23))

-- at most four steps
pub doubles-at-most : (d k : ℕ) (b : List ℤ) → k ≤ 4 → length (doubles d k 25 b) ≤ 17550
doubles-at-most d k b h = let e : 4 - k + k ≡ 4 = omega arith in omega (arith, length-turn d k b, rw e at (choices-at-most (4 - k) k), four)

-- ---- a mixed roll

length-ones : (w : Way) (n d : ℕ) (b : List ℤ) → length (ones w n d b) ≤ n
unfolding sum_to
length-ones w n d b =
    omega (arith, length-walk w n (after b d only) (λ p. 1) (λ p h. length-after b d only p 1 (λ t. omega arith)), count n)
  where
    count : (n : ℕ) → sum_to (λ p. 1) n ≡ n
    count zero = refl
    count (suc n) = omega (arith, count n)

length_pairs : (w : Way) (n d c : ℕ) (b : List ℤ) (p : ℕ) → length (pairs w n d c b p) ≤ n
length_pairs w n d c b p = length-after b d (ones w n c) p n (λ t. length-ones w n c (stepped b p d))

pub length_both : (b : List ℤ) (s l : ℕ) → length (both b s l) ≤ 576
unfolding both from_top from_low enter sum_to
length_both b s l =
    by_cond (ltb 0 (xs b 25)) (join (enter b l s) (enter b s l)) (join (from_top b s l) (from_low b l s)) (λ m. length m ≤ 576)
    (λ q. omega (arith, length-join (enter b l s) (enter b s l), length_pairs rising 25 l s b 25, length_pairs rising 25 s l b 25))
    (λ q. omega (
      arith,
      length-join (from_top b s l) (from_low b l s),
      length-walk falling 24 (λ p. pairs falling p s l b p) (λ p. p) (λ p h. length_pairs falling p s l b p),
      length-walk rising 24 (λ p. pairs rising (p - 1) l s b p) (λ p. p - 1) (λ p h. length_pairs rising (p - 1) l s b p),
    ))

length-mixed : (b : List ℤ) (s l : ℕ) → length (mixed b s l) ≤ 576
unfolding single
length-mixed b s l =
    mixed-keeps (λ m. length m ≤ 576) b s l (length_both b s l) (omega (arith, length-ones rising 25 l b)) (omega (arith, length-ones rising 25 s b))
    (omega arith)

-- ---- the bounds

module _ (b : List ℤ) (d1 d2 : ℕ) where
  pub at_most : length (ends_of b d1 d2) ≤ 17550
  unfolding ends_of
  at_most =
      by_cond (eqb d1 d2) (most d1 b 4) (mixed b (min d1 d2) (max d1 d2)) (λ m. length m ≤ 17550)
      (λ q. omega (arith, length_most d1 b 4, four)) (λ q. omega (arith, length-mixed b (min d1 d2) (max d1 d2)))

  -- 24 origins for each die
  pub mixed-at-most : d1 ≢ d2 → length (ends_of b d1 d2) ≤ 576
  mixed-at-most n = rw (mixed-list d1 d2 b n) (length-mixed b (min d1 d2) (max d1 d2))

  pub mixed-fewer : d1 ≢ d2 → length (ends_of b d1 d2) < 17550
  mixed-fewer n = omega (arith, mixed-at-most n)

-- ---- at least one

some-or_else : (l r : Boards) → 0 < length r → 0 < length (or_else l r)
some-or_else [] r h = h
some-or_else (c ∷ l) r h = omega arith

some-most : (d : ℕ) (b : List ℤ) (k : ℕ) → 0 < length (most d b k)
unfolding most
some-most d b zero = omega arith
some-most d b (suc k) = some-or_else (doubles d (suc k) 25 b) (most d b k) (some-most d b k)

some-mixed : (b : List ℤ) (s l : ℕ) → 0 < length (mixed b s l)
unfolding mixed
some-mixed b s l =
    some-or_else (both b s l) (or_else (single b l) (or_else (single b s) (only b)))
    (some-or_else (single b l) (or_else (single b s) (only b)) (some-or_else (single b s) (only b) (omega arith)))

pub has_end : (b : List ℤ) (d1 d2 : ℕ) → 0 < length (ends_of b d1 d2)
unfolding ends_of
has_end b d1 d2 =
    by_cond (eqb d1 d2) (most d1 b 4) (mixed b (min d1 d2) (max d1 d2)) (λ m. 0 < length m)
    (λ q. some-most d1 b 4) (λ q. some-mixed b (min d1 d2) (max d1 d2))

some_in : (l : Boards) → 0 < length l → (e : List ℤ) × In e l
some_in [] h = let r : ⊥ = omega arith in absurd r
some_in (c ∷ l) h = (c, inl refl)

-- so each roll has a legal end
pub has-legal-end : (b : List ℤ) (d1 d2 : ℕ) → Good b → Die d1 → Die d2 → (e : List ℤ) × LegalEnd b d1 d2 e
has-legal-end b d1 d2 g dd1 dd2 =
    let r = some_in (ends_of b d1 d2) (has_end b d1 d2) in
    (r.0, (exact b d1 d2 g dd1 dd2 r.0).0 r.1)

-- ---- two or more on the bar, a mixed roll: exactly one

one_value : (l : Boards) (v : List ℤ) → ((e : List ℤ) → In e l → e ≡ v) → Once l → length l ≤ 1
one_value [] v h o = omega arith
one_value (a ∷ []) v h o = omega arith
one_value (a ∷ c ∷ l) v h o = absurd (o.0 (inl (h a (inl refl) ∙ sym (h c (inr (inl refl))))))

-- a step with x on the bar enters
enters : (b : List ℤ) → Good b → 0 < xs b 25 → (d : ℕ) (e : List ℤ) → One d b e → (can_step b 25 d ≡ true) × (e ≡ stepped b 25 d)
enters b g h d e (p, k, t) =
    let q = from-bar b p d g k h in
    (subst (λ (x : ℕ). can_step b x d ≡ true) q k, t ∙ ap (λ (x : ℕ). stepped b x d) q)

module _ (b : List ℤ) (g : Good b) (h : 1 < xs b 25) where
  -- and with a second one there, so does the next
  both-enter : (d c : ℕ) (e : List ℤ) → Two d c b e
      → (can_step b 25 d ≡ true) × (can_step (stepped b 25 d) 25 c ≡ true) × (e ≡ stepped (stepped b 25 d) 25 c)
  both-enter d c e (p, k, o) =
      let f = enters b g (omega arith) d (stepped b p d) (p, k, refl) in
      let w = step-law b 25 d g (test-legal b 25 d f.0) in
      let left : 0 < xs (stepped b 25 d) 25 = omega (arith, w.x 25, one_same 25 25 refl) in
      let n = enters (stepped b 25 d) (can-good b 25 d g f.0) left c e (subst (λ (x : List ℤ). One c x e) f.1 o) in
      (f.0, n.0, n.1)

  length-one : (d : ℕ) → Die d → length (single b d) ≤ 1
  unfolding single
  length-one d dd =
      one_value (single b d) (stepped b 25 d) (λ e m. (enters b g (omega arith) d e (in-single e b d m)).1) (once-ones rising 25 d b g dd)

  length_two : (s l : ℕ) → Die s → Die l → length (both b s l) ≤ 1
  length_two s l ds dl = one_value (both b s l) (stepped (stepped b 25 s) 25 l) (λ e m. same e (in_both b s l e m)) (once-both b s l g ds dl)
    where
      same : (e : List ℤ) → Pair b s l e → e ≡ stepped (stepped b 25 s) 25 l
      same e (inl t) = (both-enter s l e t).2
      same e (inr t) = let r = both-enter l s e t in r.2 ∙ (swap b 25 l 25 s g dl ds (omega arith) r.0 r.1).same

  pub two-on-bar : (d1 d2 : ℕ) → Die d1 → Die d2 → d1 ≢ d2 → length (ends_of b d1 d2) ≡ 1
  two-on-bar d1 d2 dd1 dd2 n =
      let s = min d1 d2 in
      let l = max d1 d2 in
      let ds = smaller-die d1 d2 dd1 dd2 in
      let dl = larger-die d1 d2 dd1 dd2 in
      let most = mixed-keeps (λ m. length m ≤ 1) b s l (length_two s l ds dl) (length-one l dl) (length-one s ds) (omega arith) in
      rw (mixed-list d1 d2 b n) (omega (arith, most, some-mixed b s l))
