-- The dice byte: which bytes are rolls, that a written byte is read back as the roll and a read one written back, and that different rolls have different bytes.
use mathlib.Core.Path.{◌≡◌, refl, ap, sym, ◌∙◌}
use mathlib.Core.Bool.{Bool, true, false, cond, beq, ◌&&◌, ◌||◌, or-true}
use mathlib.Core.List.{List, [], ◌∷◌}
use mathlib.Core.Logic.{◌↔◌}
use Rattle.std.proofs.Common.{Result, Ok, Err}
use Prim.Native.Nat.{ℕ, zero, suc, ◌/◌, ◌%◌, ◌≤◌, ◌<◌, min, max}
use native.Mathlib.Omega.{arith}
use lib.Dec.{leb, eqb}
use lib.ListN.{length, get_or}
use borrow.Author.Tests.{le-leb, leb-true, eqb-true, eq-eqb}
use Rattle.ints.specs.Answer.{value, refused}
use Rattle.ints.specs.Sums.{all}
use Rattle.ints.proofs.Tests.{and_left, and_right, all-at}
use Rattle.dice.specs.declared.Dice.{Dice}
use Rattle.dice.specs.declared.Dice.TheVariants.{Double, Mixed}
use Rattle.ints.specs.declared.refusal.Refusal.{Refusal}
use Rattle.ints.specs.declared.refusal.Refusal.TheVariants.{DieOutside1To6, NoSuchRoll}
use Rattle.dice.specs.Rolls.{byte_of, byte, rolls}
use Rattle.dice.specs.Dice.{is_die, roll_of, dice_of, dice_byte_of, is_byte_in, dice_of_byte, dice_answer}
use Rattle.dice.proofs.TwoDice.{die-range, range-die, rolled}

-- a roll is told by its byte
roll-answer : (larger smaller : ℕ) → dice_answer (Ok (roll_of larger smaller)) ≡ value (byte_of larger smaller)
unfolding dice_answer roll_of
roll-answer larger smaller = go (eqb larger smaller) refl
  where
    go :
        (q : Bool) → eqb larger smaller ≡ q
        → dice_answer (Ok (cond q (Double larger) (Mixed (record { big = larger; small = smaller })))) ≡ value (byte_of larger smaller)
    go true e = ap (λ (s : ℕ). value (byte_of larger s)) (eqb-true larger smaller e)
    go false e = refl

-- the roll of two dice and their byte are one answer
pub dice-answer : (d1 d2 : ℕ) → dice_answer (dice_of d1 d2) ≡ dice_byte_of d1 d2
unfolding dice_of dice_byte_of dice_answer
dice-answer d1 d2 = go (is_die d1 && is_die d2)
  where
    go :
        (t : Bool)
        → dice_answer (cond t (Ok (roll_of (max d1 d2) (min d1 d2))) (Err DieOutside1To6))
        ≡ cond t (value (byte_of (max d1 d2) (min d1 d2))) (refused 7 0)
    go true = roll-answer (max d1 d2) (min d1 d2)
    go false = refl

-- the same of the case that a `match` on the roll finds
pub told-answer : (d1 d2 : ℕ) {r s : Result Dice Refusal} → r ≡ dice_of d1 d2 → r ≡ s → dice_answer s ≡ dice_byte_of d1 d2
told-answer d1 d2 e f = ap dice_answer (sym f ∙ e) ∙ dice-answer d1 d2

-- the tests of `is_dice_byte`: the smaller die is at least 1, at most the larger, and that at most 6
abbrev pub in_range : ℕ → Bool
in_range b = leb 1 (b % 16) && (leb (b % 16) (b / 16) && leb (b / 16) 6)

-- equal truth values
beq-eq : (a b : Bool) → beq a b ≡ true → a ≡ b
beq-eq true true t = refl
beq-eq true false t = cc
beq-eq false true t = cc
beq-eq false false t = refl

-- the 21 bytes are those in range: one test over all bytes
pub in-range : (b : ℕ) → b < 256 → is_byte_in rolls b ≡ in_range b
unfolding all is_byte_in rolls
in-range b h = beq-eq (is_byte_in rolls b) (in_range b) (all-at (λ k. beq (is_byte_in rolls k) (in_range k)) 256 b refl h)

-- a byte of the 21 holds a larger die, at most 6, above a smaller one, at least 1
pub in_order : (b : ℕ) → b < 256 → is_byte_in rolls b ≡ true → (1 ≤ b % 16) × (b % 16 ≤ b / 16) × (b / 16 ≤ 6)
in_order b h t =
    let r : in_range b ≡ true = sym (in-range b h) ∙ t in
    let low = and_left (leb 1 (b % 16)) (leb (b % 16) (b / 16) && leb (b / 16) 6) r in
    let rest = and_right (leb 1 (b % 16)) (leb (b % 16) (b / 16) && leb (b / 16) 6) r in (
      leb-true 1 (b % 16) low,
      leb-true (b % 16) (b / 16) (and_left (leb (b % 16) (b / 16)) (leb (b / 16) 6) rest),
      leb-true (b / 16) 6 (and_right (leb (b % 16) (b / 16)) (leb (b / 16) 6) rest),
    )

-- a byte of the 21 is read as the roll of the two dice that it holds
pub read-dice : (b : ℕ) → b < 256 → is_byte_in rolls b ≡ true → dice_of (b / 16) (b % 16) ≡ dice_of_byte b
unfolding dice_of_byte
read-dice b h t =
    let o = in_order b h t in
    let larger : max (b / 16) (b % 16) ≡ b / 16 = omega arith in
    let smaller : min (b / 16) (b % 16) ≡ b % 16 = omega arith in
    rolled (b / 16) (b % 16) (range-die (b / 16) (omega arith) (omega arith)) (range-die (b % 16) (omega arith) (omega arith))
    ∙ rw (larger, smaller, t)

-- any other byte is refused
pub read_none : (b : ℕ) → is_byte_in rolls b ≡ false → dice_of_byte b ≡ Err NoSuchRoll
unfolding dice_of_byte
read_none b t = rw t

-- a written byte is read back as the roll
pub read_back : (d1 d2 : ℕ) → is_die d1 ≡ true → is_die d2 ≡ true → dice_of_byte (byte_of (max d1 d2) (min d1 d2)) ≡ dice_of d1 d2
unfolding dice_of_byte
read_back d1 d2 one two =
    let r1 = die-range d1 one in
    let r2 = die-range d2 two in
    let b = byte_of (max d1 d2) (min d1 d2) in
    let larger : b / 16 ≡ max d1 d2 = omega arith in
    let smaller : b % 16 ≡ min d1 d2 = omega arith in
    rw (
      in-range b (omega arith),
      larger,
      smaller,
      le-leb 1 (min d1 d2) (omega arith),
      le-leb (min d1 d2) (max d1 d2) (omega arith),
      le-leb (max d1 d2) 6 (omega arith),
    ) (sym (rolled d1 d2 one two))

-- a read byte is written back, or refused by 26
pub byte-answer : (b : ℕ) → dice_answer (dice_of_byte b) ≡ cond (is_byte_in rolls b) (value b) (refused 26 0)
unfolding dice_of_byte dice_answer
byte-answer b = go (is_byte_in rolls b)
  where
    go : (t : Bool) → dice_answer (cond t (Ok (roll_of (b / 16) (b % 16))) (Err NoSuchRoll)) ≡ cond t (value b) (refused 26 0)
    go true = let e : byte_of (b / 16) (b % 16) ≡ b = omega arith in roll-answer (b / 16) (b % 16) ∙ ap value e
    go false = refl

-- different rolls have different bytes: two rolls of one byte have the same larger and the same smaller die
pub same_byte : (d1 d2 e1 e2 : ℕ) → is_die d1 ≡ true → is_die d2 ≡ true → is_die e1 ≡ true → is_die e2 ≡ true
    → byte_of (max d1 d2) (min d1 d2) ≡ byte_of (max e1 e2) (min e1 e2)
    → (max d1 d2 ≡ max e1 e2) × (min d1 d2 ≡ min e1 e2)
same_byte d1 d2 e1 e2 l1 l2 l3 l4 e =
    let r1 = die-range d1 l1 in
    let r2 = die-range d2 l2 in
    let r3 = die-range e1 l3 in
    let r4 = die-range e2 l4 in
    omega arith

-- a byte of a list of rolls is the byte of one of them, and the other way round
some_byte : (rs : List ℕ) (b : ℕ) → is_byte_in rs b ≡ true → (i : ℕ) × (i < length rs) × (get_or rs i 0 % 256 ≡ b)
unfolding is_byte_in
some_byte [] b t = let z : ◌≡◌ {A = ℕ} 0 1 = cc in absurd (omega arith)
some_byte (r ∷ rs) b t = go (eqb (r % 256) b) refl t (some_byte rs b)
  where
    go :
        (q : Bool) → eqb (r % 256) b ≡ q → (q || is_byte_in rs b) ≡ true
        → (is_byte_in rs b ≡ true → (i : ℕ) × (i < length rs) × (get_or rs i 0 % 256 ≡ b))
        → (i : ℕ) × (i < length (r ∷ rs)) × (get_or (r ∷ rs) i 0 % 256 ≡ b)
    go true e t rest = (0, omega arith, eqb-true (r % 256) b e)
    go false e t rest = let s = rest t in (suc s.0, omega arith, s.2)

is-some-byte : (rs : List ℕ) (i b : ℕ) → i < length rs → get_or rs i 0 % 256 ≡ b → is_byte_in rs b ≡ true
unfolding is_byte_in
is-some-byte [] i b h e = absurd (omega arith)
is-some-byte (r ∷ rs) zero b h e = rw (eq-eqb (r % 256) b e)
is-some-byte (r ∷ rs) (suc i) b h e = rw (is-some-byte rs i b (omega arith) e, or-true (eqb (r % 256) b))

-- a byte is read as a roll exactly if it is the byte of one of the 21
pub accepts-exactly : (b : ℕ) → ((r : Refusal) → dice_of_byte b ≡ Err r → ⊥) ↔ ((i : ℕ) × (i < 21) × (byte i ≡ b))
unfolding dice_of_byte byte
accepts-exactly b = (
  go (is_byte_in rolls b) refl,
  λ i r e. (let f : Ok (roll_of (b / 16) (b % 16)) ≡ Err r = rw (is-some-byte rolls i.0 b i.1 i.2) at e in let z : ◌≡◌ {A = ℕ} 0 1 = cc in omega arith),
)
  where
    go :
        (t : Bool) → is_byte_in rolls b ≡ t → ((r : Refusal) → cond t (Ok (roll_of (b / 16) (b % 16))) (Err NoSuchRoll) ≡ Err r → ⊥)
        → (i : ℕ) × (i < 21) × (byte i ≡ b)
    go true e f = some_byte rolls b e
    go false e f = absurd (f NoSuchRoll refl)
