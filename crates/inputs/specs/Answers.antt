-- What filling a slice and asking for one input answer (document 01, "Inputs", "Refusal numbers" 13 and 14).
use Rattle.std.proofs.Math.Bool as truth
use Rattle.std.specs.Prelude.{⊤, Bool, true, cond, List, map, ℕ, ltb, eqb, Float, ℤ, length, get_or, Result, Ok, Err}
use Rattle.std.specs.Float.Ieee.{is_nan}
use Rattle.ints.specs.Answer.{Answer, value, refused}
use Rattle.ints.specs.Refusals.{number}
use Rattle.ints.specs.declared.refusal.Refusal.{Refusal}
use Rattle.position.specs.Board.{refusal_of}
use Rattle.inputs.specs.Inputs.{whole, bits, contact_inputs, race_inputs}

-- "Refusal numbers" 13: how many values each kind has
abbrev pub contact_size : ℕ
contact_size = 202

abbrev pub race_size : ℕ
race_size = 186

-- what each case of filling says: no refusal and no value beside it, or the refusal's number
abbrev pub filled_told : Result ⊤ Refusal → Answer
filled_told (Ok t) = value 0
filled_told (Err r) = refused (number r) 0

-- "Inputs": one input asked answers either the value or a refusal number
pub data InputAnswer : Type 0 where
  given : Float → InputAnswer
  not : ℕ → InputAnswer

-- whether an answered value is a number, and so has bits of its own
abbrev pub is_number : InputAnswer → Bool
is_number (given v) = truth.not (is_nan v)
is_number (not k) = true

-- what each case of one input says
abbrev pub input_told : Result Float Refusal → InputAnswer
input_told (Ok v) = given v
input_told (Err r) = not (number r)

-- "Refusal numbers", order: the board's refusal k, then 13 where the slice has not exactly `size` values; else no refusal
unfoldable pub fill_answer : ℕ → ℕ → ℕ → Answer
fill_answer k size held = cond (eqb k 0) (cond (eqb held size) (value 0) (refused 13 0)) (refused k 0)

-- "Inputs": the slice afterwards holds the bits of the inputs by their places; where filling is refused it is as it was
unfoldable pub fill_lent : ℕ → ℕ → List ℕ → List ℕ → List ℕ
fill_lent k size inputs out = cond (eqb k 0) (cond (eqb (length out) size) (map bits inputs) out) out

-- "Refusal numbers", order: the board's refusal k, then 14 where the place is not below `size`; else the input that has the place
unfoldable pub place_answer : ℕ → ℕ → List ℕ → ℕ → InputAnswer
place_answer k size inputs place =
    cond (eqb k 0) (cond (ltb place size) (given (whole (get_or inputs place 0))) (not 14)) (not k)

-- "Inputs", contact: filling a slice of `held` values, the slice afterwards, and one input
unfoldable pub contact_answer : ℕ → List ℤ → ℕ → Answer
contact_answer n b held = fill_answer (refusal_of n b) contact_size held

unfoldable pub contact_lent : ℕ → List ℤ → List ℕ → List ℕ
contact_lent n b out = fill_lent (refusal_of n b) contact_size (contact_inputs n b) out

unfoldable pub contact_input : ℕ → List ℤ → ℕ → InputAnswer
contact_input n b place = place_answer (refusal_of n b) contact_size (contact_inputs n b) place

-- "Inputs", race: the same
unfoldable pub race_answer : ℕ → List ℤ → ℕ → Answer
race_answer n b held = fill_answer (refusal_of n b) race_size held

unfoldable pub race_lent : ℕ → List ℤ → List ℕ → List ℕ
race_lent n b out = fill_lent (refusal_of n b) race_size (race_inputs n b) out

unfoldable pub race_input : ℕ → List ℤ → ℕ → InputAnswer
race_input n b place = place_answer (refusal_of n b) race_size (race_inputs n b) place
