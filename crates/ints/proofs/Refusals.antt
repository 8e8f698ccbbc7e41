-- Document 01's numbers tell refusals apart, none of them is 0, and so answers are told apart by what they say.
use Rattle.std.proofs.Common.{◌≡◌, refl, sym, ap, ◌∙◌, ℕ, ◌<◌, [], ◌∷◌, get_or, Result, Ok, Err}
use Rattle.std.specs.Prelude.{⊤}
use native.Mathlib.Omega.{arith}
use Rattle.ints.specs.Refusals.{number, refusal_in, told, told_with}
use Rattle.ints.specs.declared.refusal.Refusal.{Refusal}
use Rattle.ints.specs.declared.refusal.Refused.{Refused}
use Rattle.ints.specs.declared.refusal.Refusal.TheVariants.{XOver15, OOver15, XBarNegative, OBarPositive, Finished, EmptyBoard, DieOutside1To6, FromAbove25, StepNotLegal, ListTooShort, NoSuchEnd, NotAnEnd, InputsNotExact, NoSuchInput, KeyOOver15, KeyXOver15, KeySharedPoint, KeyBitAfterEnd, CardTooShort, StartTooShort, StartMark, TurnLimit, TurnTooShort, TurnMark, TurnAfterFinish, NoSuchRoll, RowTooShort, NoSuchPosition}

-- the refusal that has a number, of those that some refusal has
named : ℕ → Refusal
named n =
    get_or
    (XOver15 ∷ XOver15 ∷ OOver15 ∷ XBarNegative ∷ OBarPositive ∷ Finished ∷ EmptyBoard ∷ DieOutside1To6 ∷ FromAbove25 ∷ StepNotLegal
    ∷ ListTooShort ∷ NoSuchEnd ∷ NotAnEnd ∷ InputsNotExact ∷ NoSuchInput ∷ KeyOOver15 ∷ KeyXOver15 ∷ KeySharedPoint ∷ KeyBitAfterEnd
    ∷ CardTooShort ∷ StartTooShort ∷ StartMark ∷ TurnLimit ∷ TurnTooShort ∷ TurnMark ∷ TurnAfterFinish ∷ NoSuchRoll ∷ RowTooShort ∷ [])
    n NoSuchPosition

named-number : (r : Refusal) → named (number r) ≡ r
unfolding named
named-number XOver15 = refl
named-number OOver15 = refl
named-number XBarNegative = refl
named-number OBarPositive = refl
named-number Finished = refl
named-number EmptyBoard = refl
named-number DieOutside1To6 = refl
named-number FromAbove25 = refl
named-number StepNotLegal = refl
named-number ListTooShort = refl
named-number NoSuchEnd = refl
named-number NotAnEnd = refl
named-number InputsNotExact = refl
named-number NoSuchInput = refl
named-number KeyOOver15 = refl
named-number KeyXOver15 = refl
named-number KeySharedPoint = refl
named-number KeyBitAfterEnd = refl
named-number CardTooShort = refl
named-number StartTooShort = refl
named-number StartMark = refl
named-number TurnLimit = refl
named-number TurnTooShort = refl
named-number TurnMark = refl
named-number TurnAfterFinish = refl
named-number NoSuchRoll = refl
named-number RowTooShort = refl
named-number NoSuchPosition = refl

pub number-apart : (r s : Refusal) → number r ≡ number s → r ≡ s
number-apart r s e = sym (named-number r) ∙ ap named e ∙ named-number s

pub number-pos : (r : Refusal) → 0 < number r
number-pos XOver15 = omega arith
number-pos OOver15 = omega arith
number-pos XBarNegative = omega arith
number-pos OBarPositive = omega arith
number-pos Finished = omega arith
number-pos EmptyBoard = omega arith
number-pos DieOutside1To6 = omega arith
number-pos FromAbove25 = omega arith
number-pos StepNotLegal = omega arith
number-pos ListTooShort = omega arith
number-pos NoSuchEnd = omega arith
number-pos NotAnEnd = omega arith
number-pos InputsNotExact = omega arith
number-pos NoSuchInput = omega arith
number-pos KeyOOver15 = omega arith
number-pos KeyXOver15 = omega arith
number-pos KeySharedPoint = omega arith
number-pos KeyBitAfterEnd = omega arith
number-pos CardTooShort = omega arith
number-pos StartTooShort = omega arith
number-pos StartMark = omega arith
number-pos TurnLimit = omega arith
number-pos TurnTooShort = omega arith
number-pos TurnMark = omega arith
number-pos TurnAfterFinish = omega arith
number-pos NoSuchRoll = omega arith
number-pos RowTooShort = omega arith
number-pos NoSuchPosition = omega arith

pub refused-apart : (r s : Refused) → number r.why ≡ number s.why → r.carried ≡ s.carried → r ≡ s
refused-apart r s e f =
    let with : Refusal → ℕ → Refused = λ w k. record { why = w; carried = k } in
    ap (λ (w : Refusal). with w r.carried) (number-apart r.why s.why e) ∙ ap (with s.why) f

-- what refuses tells an answer apart
pub told-apart : (r s : Result ℕ Refusal) → told r ≡ told s → r ≡ s
told-apart (Ok n) (Ok m) e = cc
told-apart (Ok n) (Err s) e = cc
told-apart (Err r) (Ok m) e = cc
told-apart (Err r) (Err s) e = let f : number r ≡ number s = cc in ap Err (number-apart r s f)

pub told_with-apart : (r s : Result ℕ Refused) → told_with r ≡ told_with s → r ≡ s
told_with-apart (Ok n) (Ok m) e = cc
told_with-apart (Ok n) (Err s) e = cc
told_with-apart (Err r) (Ok m) e = cc
told_with-apart (Err r) (Err s) e =
    let f : number r.why ≡ number s.why = cc in
    let g : r.carried ≡ s.carried = cc in
    ap Err (refused-apart r s f g)

pub checks-apart : (r s : Result ⊤ Refusal) → refusal_in r ≡ refusal_in s → r ≡ s
checks-apart (Ok t) (Ok u) e = refl
checks-apart (Ok t) (Err s) e = absurd (omega (arith, e, number-pos s))
checks-apart (Err r) (Ok u) e = absurd (omega (arith, e, number-pos r))
checks-apart (Err r) (Err s) e = ap Err (number-apart r s e)
