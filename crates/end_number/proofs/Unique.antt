-- Two answers that meet the promise are equal.
use mathlib.Core.Path.{◌≡◌, sym, ◌∙◌}
use mathlib.Core.List.{List}
use Prim.Native.Nat.{ℕ}
use lib.IntN.{ℤ}
use Rattle.std.proofs.Common.{Result}
use Rattle.ints.specs.declared.refusal.Refusal.{Refusal}
use Rattle.ints.proofs.Refusals.{told-apart}
use Rattle.end_number.specs.Number.{number_told, number_answer}

pub number-unique : (n : ℕ) (b : List ℤ) (d1 d2 : ℕ) (e : List ℤ) (r s : Result ℕ Refusal)
    → number_told r ≡ number_answer n b d1 d2 e → number_told s ≡ number_answer n b d1 d2 e → r ≡ s
number-unique n b d1 d2 e r s p q = told-apart r s (p ∙ sym q)
