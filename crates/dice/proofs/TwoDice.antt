-- The roll of two dice: which facts make each case of `dice_of`, what each case tells of the dice, and that their order is no matter.
use mathlib.Core.Path.{◌≡◌, refl, sym, ◌∙◌, subst}
use mathlib.Core.Bool.{Bool, true, false, cond, ◌&&◌, and_comm}
use Rattle.std.proofs.Common.{Result, Ok, Err}
use Prim.Native.Nat.{ℕ, ◌≤◌, ◌<◌, min, max}
use native.Mathlib.Nat.{max_comm, min_comm}
use native.Mathlib.Omega.{arith}
use lib.Dec.{leb, eqb}
use borrow.Author.Tests.{leb-true, le-leb, eqb-true, eqb-false, eq-eqb, ne_eqb}
use Rattle.dice.specs.declared.MixedDice.{MixedDice}
use Rattle.dice.specs.declared.Dice.{Dice}
use Rattle.dice.specs.declared.Dice.TheVariants.{Double, Mixed}
use Rattle.ints.specs.declared.refusal.Refusal.{Refusal}
use Rattle.ints.specs.declared.refusal.Refusal.TheVariants.{DieOutside1To6}
use Rattle.dice.specs.Dice.{is_die, Die, roll_of, dice_of}
use Rattle.ints.proofs.Tests.{and_left, and_right}

-- a die is a number from 1 to 6
pub die-range : (d : ℕ) → is_die d ≡ true → (1 ≤ d) × (d ≤ 6)
unfolding is_die
die-range d t = (leb-true 1 d (and_left (leb 1 d) (leb d 6) t), leb-true d 6 (and_right (leb 1 d) (leb d 6) t))

pub range-die : (d : ℕ) → 1 ≤ d → d ≤ 6 → is_die d ≡ true
unfolding is_die
range-die d low high = rw (le-leb 1 d low, le-leb d 6 high)

-- the test and the record of facts agree
pub test-die : (d : ℕ) → is_die d ≡ true → Die d
test-die d t = let r = die-range d t in record { low = omega arith; high = omega arith }

pub die-test : (d : ℕ) → Die d → is_die d ≡ true
die-test d k = range-die d (omega (arith, k.low)) k.high

-- which facts make each case
module _ (d1 d2 : ℕ) where
  pub refused-first : is_die d1 ≡ false → dice_of d1 d2 ≡ Err DieOutside1To6
  unfolding dice_of
  refused-first e = rw e

  pub refused-second : is_die d2 ≡ false → dice_of d1 d2 ≡ Err DieOutside1To6
  unfolding dice_of
  refused-second e = rw (and_comm (is_die d1) (is_die d2), e)

  module _ (one : is_die d1 ≡ true) (two : is_die d2 ≡ true) where
    pub rolled : dice_of d1 d2 ≡ Ok (roll_of (max d1 d2) (min d1 d2))
    unfolding dice_of
    rolled = rw (one, two)

    pub double-is : d1 ≡ d2 → dice_of d1 d2 ≡ Ok (Double d1)
    unfolding roll_of
    double-is e =
        let larger : max d1 d2 ≡ d1 = omega arith in
        rolled ∙ rw (eq-eqb (max d1 d2) (min d1 d2) (omega arith), larger)

    pub mixed-is : (d1 ≡ d2 → ⊥) → (m : MixedDice) → m.big ≡ max d1 d2 → m.small ≡ min d1 d2 → dice_of d1 d2 ≡ Ok (Mixed m)
    unfolding roll_of
    mixed-is apart m big small =
        rolled ∙ rw (ne_eqb (max d1 d2) (min d1 d2) (λ e. apart (omega arith)), ← big, ← small)

-- what each case of a roll tells of two dice: a double's die is both of them; a mixed roll has the larger and the smaller, which differ; a refusal is 7
abbrev pub Tells : ℕ → ℕ → Result Dice Refusal → Type 0
Tells d1 d2 (Ok (Double d)) = (d1 ≡ d) × (d2 ≡ d) × (1 ≤ d) × (d ≤ 6)
Tells d1 d2 (Ok (Mixed m)) = (max d1 d2 ≡ m.big) × (min d1 d2 ≡ m.small) × (1 ≤ m.small) × (m.small < m.big) × (m.big ≤ 6)
Tells d1 d2 (Err r) = (r ≡ DieOutside1To6) × ((is_die d1 && is_die d2) ≡ false)

-- the roll of two dice tells that of them
pub dice-tell : (d1 d2 : ℕ) → Tells d1 d2 (dice_of d1 d2)
unfolding dice_of roll_of
dice-tell d1 d2 = go (is_die d1 && is_die d2) (eqb (max d1 d2) (min d1 d2)) refl refl
  where
    go :
        (t q : Bool) → (is_die d1 && is_die d2) ≡ t → eqb (max d1 d2) (min d1 d2) ≡ q
        → Tells d1 d2 (cond t (Ok (cond q (Double (max d1 d2)) (Mixed (record { big = max d1 d2; small = min d1 d2 })))) (Err DieOutside1To6))
    go false q e f = (refl, e)
    go true true e f =
        let one = die-range d1 (and_left (is_die d1) (is_die d2) e) in
        let two = die-range d2 (and_right (is_die d1) (is_die d2) e) in
        let same = eqb-true (max d1 d2) (min d1 d2) f in
        omega arith
    go true false e f =
        let one = die-range d1 (and_left (is_die d1) (is_die d2) e) in
        let two = die-range d2 (and_right (is_die d1) (is_die d2) e) in
        let apart = eqb-false (max d1 d2) (min d1 d2) f in
        (refl, refl, omega arith, omega arith, omega arith)

-- the same of the case that a `match` on the roll finds
pub told : (d1 d2 : ℕ) {r s : Result Dice Refusal} → r ≡ dice_of d1 d2 → r ≡ s → Tells d1 d2 s
told d1 d2 e f = subst (Tells d1 d2) (sym e ∙ f) (dice-tell d1 d2)

-- the order of the two dice is no matter
pub either_order : (d1 d2 : ℕ) → dice_of d1 d2 ≡ dice_of d2 d1
unfolding dice_of
either_order d1 d2 = rw (and_comm (is_die d1) (is_die d2), max_comm d1 d2, min_comm d1 d2)
