-- A mixed roll with x on the bar: the masks after a checker entered, and what the list is then. Assumes nothing.
use Rattle.std.proofs.Common.{Option, None}
use mathlib.Core.Path.{◌≡◌, refl, sym, ap, ◌∙◌}
use mathlib.Core.Bool.{Bool, true, false, not, cond, ◌&&◌, ◌||◌, or-true, or-false}
use mathlib.Core.List.{List, [], ◌++◌}
use Prim.Native.Nat.{ℕ, ◌+◌, ◌-◌, ◌^◌, ◌<◌, ◌≤◌}
use native.Mathlib.Omega.{arith}
use native.Mathlib.Decide.{ℕ_discrete}
use borrow.Author.Tests.{ltb-true, lt-ltb, le-leb, eq-eqb, ne_eqb}
use lib.Bits.{bit_or}
use lib.Dec.{ltb, leb, eqb}
use lib.IntN.{ℤ}
use lib.ListN.{length, length-append}
use Rattle.ints.specs.Signed.{Small}
use Rattle.ints.specs.Sums.{one}
use Rattle.ints.specs.Bits.{bit}
use Rattle.ints.specs.Masks.{IsMask, those}
use Rattle.ints.proofs.Digits.{bit-or-pow}
use Rattle.ints.proofs.Signed.{small-more}
use Rattle.ints.proofs.Sums.{one_same, one-other}
use Rattle.ints.proofs.Tests.{by_cond}
use Rattle.position.specs.Board.{xs, os}
use Rattle.position.specs.Step.{Good, can_step, stepped}
use Rattle.position.proofs.Steps.{AfterStep, step-law, test-legal, reached, reached-on}
use Rattle.position.proofs.StepCode.{small-stepped}
use Rattle.rules.specs.Ends.{after, only, or_else, enter, both, single, mixed}
use Rattle.rules.specs.Omitted.{enter_once}
use Rattle.dice.specs.Dice.{Die}
use Rattle.rules.proofs.Two.{can-good}
use Rattle.rules.proofs.Bound.{length_both}
use Rattle.rules.proofs.Repeats.{both-bar, both-full, bar-alone, enter-full}
use Rattle.moves.specs.Bytes.{steps}
use Rattle.moves.specs.Points.{inside, holds_x, is_free, Masked, origins_mask}
use Rattle.moves.specs.Seconds.{left_out, Omits, up_but, enter_but, one_die, after_entering}
use Rattle.moves.proofs.Seconds.{but-none, but-omits, but-points, up-but}

-- ---- the masks after a checker entered

-- tests that agree on the points agree
on-points : (i : ℕ) (s t : Bool) → (0 < i → i < 25 → s ≡ t) → inside i && s ≡ inside i && t
on-points i s t h = go (ltb 0 i) (ltb i 25) refl refl
  where
    go : (u v : Bool) → ltb 0 i ≡ u → ltb i 25 ≡ v → u && v && s ≡ u && v && t
    go true true e f = h (ltb-true 0 i e) (ltb-true i 25 f)
    go true false e f = refl
    go false v e f = refl

module _ (b : List ℤ) (d : ℕ) (g : Good b) (die : Die d) (can : can_step b 25 d ≡ true) where
  law : AfterStep b (stepped b 25 d) 25 d
  law = step-law b 25 d g (test-legal b 25 d can)

  on : (i : ℕ) → reached 25 d i ≡ one (25 - d) i
  on i = reached-on 25 d i (omega (arith, die.high))

  entered-masked : (x free : ℕ) → IsMask (holds_x b) x → IsMask (is_free b) free → xs b 25 ≡ 1
      → Masked (stepped b 25 d) (bit_or x (2 ^ (25 - d))) free
  unfolding holds_x is_free
  entered-masked x free xm fm e = record {
    x-mask = λ i. bit-or-pow x (25 - d) i ∙ ap (λ (t : Bool). t || eqb i (25 - d)) (xm i) ∙ held i (ℕ_discrete i (25 - d));
    free-mask = λ i. fm i ∙ on-points i (leb (os b i) 1) (leb (os (stepped b 25 d) i) 1) (λ l u. room i l (ℕ_discrete (25 - d) i));
    bar = omega (arith, law.x 25, on 25, one_same 25 25 refl, one-other (25 - d) 25 (λ z. omega (arith, die.low)), e);
  }
    where
      held : (i : ℕ) → Dec (i ≡ 25 - d) → inside i && ltb 0 (xs b i) || eqb i (25 - d) ≡ inside i && ltb 0 (xs (stepped b 25 d) i)
      held i (yes z) =
          let h : 0 < xs (stepped b 25 d) i =
          omega (arith, law.x i, on i, one_same (25 - d) i (sym z), one-other 25 i (λ q. omega (arith, die.low))) in
          rw (eq-eqb i (25 - d) z, lt-ltb 0 i (omega (arith, die.high)), lt-ltb i 25 (omega (arith, die.low)), lt-ltb 0 (xs (stepped b 25 d) i) h)
          (or-true (ltb 0 (xs b i)))
      held i (no n) =
          rw (ne_eqb i (25 - d) n)
          (or-false (inside i && ltb 0 (xs b i))
          ∙ on-points i (ltb 0 (xs b i)) (ltb 0 (xs (stepped b 25 d) i)) (λ l u.
          let k : xs b i ≡ xs (stepped b 25 d) i =
          omega (arith, law.x i, on i, one-other (25 - d) i (λ q. n (sym q)), one-other 25 i (λ q. omega arith)) in
          ap (ltb 0) k))

      room : (i : ℕ) → 0 < i → Dec (25 - d ≡ i) → leb (os b i) 1 ≡ leb (os (stepped b 25 d) i) 1
      room i l (yes z) =
          let h = ap (os b) z in
          let k : os b i ≤ 1 = omega (arith, (test-legal b 25 d can).on (omega (arith, die.high))) in
          rw (le-leb (os b i) 1 k, le-leb (os (stepped b 25 d) i) 1 (omega (arith, law.o i l)))
      room i l (no n) =
          let k : os b i ≡ os (stepped b 25 d) i = omega (arith, law.o i l, on i, one-other (25 - d) i n) in
          ap (λ (m : ℕ). leb m 1) k

-- ---- one on the bar

module _ (b : List ℤ) (d e : ℕ) (w : Option ℕ) where
  enter-yes : can_step b 25 d ≡ true → enter_but b d e w ≡ up_but (stepped b 25 d) e w 25
  unfolding enter_but after
  enter-yes can = rw can

  pub enter-no : can_step b 25 d ≡ false → enter_but b d e w ≡ []
  unfolding enter_but after
  enter-no can = rw can

  -- y and f are the masks after it entered, m the origins of the second die, r those without w
  pub enter-turn : (x free y f m r : ℕ) → Good b → Die d → Die e → IsMask (holds_x b) x → IsMask (is_free b) free → xs b 25 ≡ 1
      → can_step b 25 d ≡ true → (y ≡ bit_or x (2 ^ (25 - d))) × (f ≡ free) → y < 2 ^ 25 → f < 2 ^ 25 → m ≡ origins_mask y f e 24
      → IsMask (λ i. bit m i && not (left_out w i)) r → steps (stepped b 25 d) e (those 25 0 (bit r)) ≡ enter_but b d e w
  enter-turn x free y f m r g dd de xm fm one can a yl fl o without =
      let k : Masked (stepped b 25 d) y f = rw (a.0, a.1) (entered-masked b d g dd can x free xm fm one) in
      up-but (record { good = can-good b 25 d g can; masked = k; x_lt = yl; free-lt = fl }) de 24 (omega arith) w r
      (λ i. without i ∙ ap (λ (n : ℕ). bit n i && not (left_out w i)) o)
      ∙ sym (but-points (stepped b 25 d) e w k.bar) ∙ sym (enter-yes can)

  enter-omits : Omits b d e 25 w → enter_but b d e w ≡ enter_once b d e
  unfolding enter_but enter_once after
  enter-omits h = ap (λ l. cond (can_step b 25 d) l []) (but-omits b d e 25 w (stepped b 25 d) 25 h)

enter-none : (b : List ℤ) (d e : ℕ) → enter_but b d e None ≡ enter b d e
unfolding enter_but enter after
enter-none b d e = ap (λ l. cond (can_step b 25 d) l []) (but-none (stepped b 25 d) e 25)

module _ (b : List ℤ) (s l : ℕ) (g : Good b) (ds : Die s) (dl : Die l) (lt : s < l) (h : xs b 25 ≡ 1) where
  -- all after the larger die, then those after the smaller but for the omitted one
  pub both-but : (w : Option ℕ) → Omits b s l 25 w → enter_but b l s None ++ enter_but b s l w ≡ both b s l
  both-but w o = rw (enter-none b l s, enter-omits b s l w o) (sym (both-bar b s l g ds dl lt h))

  pub enter-few : length (enter_but b l s None) ≤ 576
  enter-few =
      rw (enter-none b l s)
      (omega (arith, length_both b s l, ap length (both-bar b s l g ds dl lt h), length-append (enter b l s) (enter_once b s l)))

-- ---- one die alone, with x on the bar

or-single : (b : List ℤ) (d : ℕ) (es : List (List ℤ)) → 0 < xs b 25
    → or_else (single b d) es ≡ cond (can_step b 25 d) (only (stepped b 25 d)) es
unfolding single after
or-single b d es h = rw (bar-alone b d h) (go (can_step b 25 d))
  where
    go : (t : Bool) → or_else (cond t (only (stepped b 25 d)) []) es ≡ cond t (only (stepped b 25 d)) es
    go true = refl
    go false = refl

module _ (b : List ℤ) (s l : ℕ) (h : 0 < xs b 25) where
  -- the larger die, else the smaller, else the board
  pub alone-larger : can_step b 25 l ≡ true → one_die b s l ≡ only (after_entering b l)
  unfolding after_entering
  alone-larger can = rw (or-single b l (or_else (single b s) (only b)) h, can)

  pub alone-smaller : can_step b 25 l ≡ false → one_die b s l ≡ only (after_entering b s)
  unfolding after_entering
  alone-smaller can =
      rw (or-single b l (or_else (single b s) (only b)) h, can)
      (or-single b s (only b) h ∙ by_cond (can_step b 25 s) (stepped b 25 s) b (λ c. cond (can_step b 25 s) (only (stepped b 25 s)) (only b) ≡ only c) (λ z. rw z) (λ z. rw z))

-- ---- two or more on the bar

module _ (b : List ℤ) (s l : ℕ) (h : 0 < xs b 25) where
  full-larger : can_step b 25 l ≡ true
      → or_else (after b l (λ a. after a s only 25) 25) (one_die b s l) ≡ only (after_entering (after_entering b l) s)
  unfolding after after_entering
  full-larger can =
      let c = stepped b 25 l in
      ap (or_else (after b l (λ a. after a s only 25) 25)) (alone-larger b s l h can) ∙ rw can (go (can_step c 25 s) c (stepped c 25 s))
    where
      go : (t : Bool) (c d : List ℤ) → or_else (cond t (only d) []) (only c) ≡ only (cond t d c)
      go true c d = refl
      go false c d = refl

  full-smaller : can_step b 25 l ≡ false
      → or_else (after b l (λ a. after a s only 25) 25) (one_die b s l) ≡ only (after_entering (after_entering b l) s)
  unfolding after after_entering
  full-smaller can = ap (or_else (after b l (λ a. after a s only 25) 25)) (alone-smaller b s l h can) ∙ rw can

-- a checker entered with each die that can be
pub mixed-full : (b : List ℤ) (s l : ℕ) → Good b → Die s → Die l → s < l → 2 ≤ xs b 25
    → mixed b s l ≡ only (after_entering (after_entering b l) s)
unfolding mixed
mixed-full b s l g ds dl lt h =
    ap (λ es. or_else es (one_die b s l)) (both-full b s l g ds dl lt h ∙ enter-full b l s g dl h)
    ∙ go (can_step b 25 l) refl
  where
    go : (t : Bool) → can_step b 25 l ≡ t
        → or_else (after b l (λ a. after a s only 25) 25) (one_die b s l) ≡ only (after_entering (after_entering b l) s)
    go true z = full-larger b s l (omega arith) z
    go false z = full-smaller b s l (omega arith) z

-- ---- the board after a checker entered

pub entering-yes : (b : List ℤ) (d : ℕ) → can_step b 25 d ≡ true → stepped b 25 d ≡ after_entering b d
unfolding after_entering
entering-yes b d can = rw can

pub entering-no : (b : List ℤ) (d : ℕ) → can_step b 25 d ≡ false → b ≡ after_entering b d
unfolding after_entering
entering-no b d can = rw can

-- its entries stay small
pub small-entering : (k : ℕ) (b : List ℤ) (d : ℕ) → Small k b → Small (k + 2) (after_entering b d)
unfolding after_entering
small-entering k b d s =
    by_cond (can_step b 25 d) (stepped b 25 d) b (Small (k + 2)) (λ z. small-stepped k b 25 d s) (λ z. small-more k (k + 2) b (omega arith) s)
