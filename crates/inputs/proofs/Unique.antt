-- Two answers, and two states of the lent slice, that meet one promise are equal, for each entry.
use Rattle.std.specs.Prelude.{⊤, Float, Result, Ok, Err}
use mathlib.Core.Path.{◌≡◌, refl, ap}
use mathlib.Core.List.{List}
use Prim.Native.Nat.{ℕ}
use lib.IntN.{ℤ}
use lib.ListN.{length}
use Rattle.ints.specs.Refusals.{number}
use Rattle.ints.specs.declared.refusal.Refusal.{Refusal}
use Rattle.ints.proofs.Refusals.{number-apart}
use Rattle.ints.proofs.Tests.{one_answer}
use Rattle.inputs.specs.Answers.{filled_told, input_told, contact_answer, contact_lent, contact_input, race_answer, race_lent, race_input}

filled_apart : (r s : Result ⊤ Refusal) → filled_told r ≡ filled_told s → r ≡ s
filled_apart (Ok t) (Ok u) e = refl
filled_apart (Ok t) (Err s) e = cc
filled_apart (Err r) (Ok u) e = cc
filled_apart (Err r) (Err s) e = let f : number r ≡ number s = cc in ap Err (number-apart r s f)

input-apart : (r s : Result Float Refusal) → input_told r ≡ input_told s → r ≡ s
input-apart (Ok v) (Ok w) e = cc
input-apart (Ok v) (Err s) e = cc
input-apart (Err r) (Ok w) e = cc
input-apart (Err r) (Err s) e = let f : number r ≡ number s = cc in ap Err (number-apart r s f)

pub contact-inputs-unique : (n : ℕ) (b : List ℤ) (out : List ℕ) (r s : Result ⊤ Refusal) (l m : List ℕ)
    → filled_told r ≡ contact_answer n b (length out) → l ≡ contact_lent n b out
    → filled_told s ≡ contact_answer n b (length out) → m ≡ contact_lent n b out → (r ≡ s) × (l ≡ m)
contact-inputs-unique n b out r s l m p u q v = (filled_apart r s (one_answer p q), one_answer u v)

pub race-inputs-unique : (n : ℕ) (b : List ℤ) (out : List ℕ) (r s : Result ⊤ Refusal) (l m : List ℕ)
    → filled_told r ≡ race_answer n b (length out) → l ≡ race_lent n b out
    → filled_told s ≡ race_answer n b (length out) → m ≡ race_lent n b out → (r ≡ s) × (l ≡ m)
race-inputs-unique n b out r s l m p u q v = (filled_apart r s (one_answer p q), one_answer u v)

pub contact-input-unique : (n : ℕ) (b : List ℤ) (place : ℕ) (r s : Result Float Refusal) → input_told r ≡ contact_input n b place → input_told s ≡ contact_input n b place → r ≡ s
contact-input-unique n b place r s p q = input-apart r s (one_answer p q)

pub race-input-unique : (n : ℕ) (b : List ℤ) (place : ℕ) (r s : Result Float Refusal) → input_told r ≡ race_input n b place → input_told s ≡ race_input n b place → r ≡ s
race-input-unique n b place r s p q = input-apart r s (one_answer p q)
