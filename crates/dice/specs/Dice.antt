-- What is answered of two dice and of a dice byte, and which number or value each case of a roll's answer stands for.
use Rattle.std.specs.Prelude.{Bool, false, cond, ◌&&◌, ◌||◌, List, [], ◌∷◌, ℕ, ◌/◌, ◌%◌, ◌≤◌, ◌<◌, min, max, leb, eqb, Result, Ok, Err}
use Rattle.ints.specs.declared.refusal.Refusal.{Refusal}
use Rattle.ints.specs.declared.refusal.Refusal.TheVariants.{DieOutside1To6, NoSuchRoll}
use Rattle.ints.specs.Answer.{Answer, value, refused}
use Rattle.ints.specs.Refusals.{number}
use Rattle.dice.specs.declared.Dice.{Dice}
use Rattle.dice.specs.declared.Dice.TheVariants.{Double, Mixed}
use Rattle.dice.specs.Rolls.{byte_of, rolls}

-- Document 01, "Refusal numbers", 7: a die shows 1 to 6.
unfoldable pub is_die : ℕ → Bool
is_die d = leb 1 d && leb d 6

-- the same as a record of plain facts
pub record Die (d : ℕ) : Type 0 where
  pub low : 0 < d
  pub high : d ≤ 6

-- Document 01, "Dice": two equal dice are a double, a larger and a smaller one are a mixed roll.
unfoldable pub roll_of : ℕ → ℕ → Dice
roll_of larger smaller =
    cond (eqb larger smaller) (Double larger) (Mixed (record { big = larger; small = smaller }))

-- Document 01, "Refusal numbers", 7: two dice, in either order, are a roll unless one of them is outside 1 to 6.
unfoldable pub dice_of : ℕ → ℕ → Result Dice Refusal
dice_of d1 d2 = cond (is_die d1 && is_die d2) (Ok (roll_of (max d1 d2) (min d1 d2))) (Err DieOutside1To6)

-- Document 01, "Dice": two dice, in either order, have the byte of the larger and the smaller, or are refused by 7.
unfoldable pub dice_byte_of : ℕ → ℕ → Answer
dice_byte_of d1 d2 = cond (is_die d1 && is_die d2) (value (byte_of (max d1 d2) (min d1 d2))) (refused 7 0)

-- Document 01, "Refusal numbers", 26: whether b is the dice byte of a roll in a list.
unfoldable pub is_byte_in : List ℕ → ℕ → Bool
is_byte_in [] b = false
is_byte_in (roll ∷ rest) b = eqb (roll % 256) b || is_byte_in rest b

-- Document 01, "Refusal numbers", 26: the byte of one of the 21 rolls holds its larger and its smaller die; any other byte is refused.
unfoldable pub dice_of_byte : ℕ → Result Dice Refusal
dice_of_byte b = cond (is_byte_in rolls b) (Ok (roll_of (b / 16) (b % 16))) (Err NoSuchRoll)

-- Document 01, "What to write where": the cases of a roll's answer are a roll, told by its dice byte, and a refusal's number.
unfoldable pub dice_answer : Result Dice Refusal → Answer
dice_answer (Ok (Double d)) = value (byte_of d d)
dice_answer (Ok (Mixed m)) = value (byte_of m.big m.small)
dice_answer (Err r) = refused (number r) 0
