-- Which number of document 01 each refusal has ("Refusal numbers"), and what an answer of a number or a refusal says.
use Rattle.std.specs.Prelude.{ℕ, Result, Ok, Err}
use Rattle.ints.specs.Answer.{Answer, value, refused}
use Rattle.ints.specs.declared.refusal.Refusal.{Refusal}
use Rattle.ints.specs.declared.refusal.Refused.{Refused}
use Rattle.ints.specs.declared.refusal.Refusal.TheVariants.{XOver15, OOver15, XBarNegative, OBarPositive, Finished, EmptyBoard, DieOutside1To6, FromAbove25, StepNotLegal, ListTooShort, NoSuchEnd, NotAnEnd, InputsNotExact, NoSuchInput, KeyOOver15, KeyXOver15, KeySharedPoint, KeyBitAfterEnd, CardTooShort, StartTooShort, StartMark, TurnLimit, TurnTooShort, TurnMark, TurnAfterFinish, NoSuchRoll, RowTooShort, NoSuchPosition}

-- "Refusal numbers": the number of each refusal
abbrev pub number : Refusal → ℕ
number XOver15 = 1
number OOver15 = 2
number XBarNegative = 3
number OBarPositive = 4
number Finished = 5
number EmptyBoard = 6
number DieOutside1To6 = 7
number FromAbove25 = 8
number StepNotLegal = 9
number ListTooShort = 10
number NoSuchEnd = 11
number NotAnEnd = 12
number InputsNotExact = 13
number NoSuchInput = 14
number KeyOOver15 = 15
number KeyXOver15 = 16
number KeySharedPoint = 17
number KeyBitAfterEnd = 18
number CardTooShort = 19
number StartTooShort = 20
number StartMark = 21
number TurnLimit = 22
number TurnTooShort = 23
number TurnMark = 24
number TurnAfterFinish = 25
number NoSuchRoll = 26
number RowTooShort = 27
number NoSuchPosition = 36

-- the number of an answer's refusal, 0 where it is none
abbrev pub refusal_in : {A : Type 0} → Result A Refusal → ℕ
refusal_in (Ok a) = 0
refusal_in (Err r) = number r

-- what an answer says that is a number or a refusal, which carries nothing
abbrev pub told : Result ℕ Refusal → Answer
told (Ok n) = value n
told (Err r) = refused (number r) 0

-- what an answer says that is a number, or a refusal with what it carries
abbrev pub told_with : Result ℕ Refused → Answer
told_with (Ok n) = value n
told_with (Err r) = refused (number r.why) r.carried
