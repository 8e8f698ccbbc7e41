-- Two answers, and two states of the lent row, that meet one promise are equal.
use mathlib.Core.Path.{◌≡◌, ap}
use mathlib.Core.List.{List}
use Prim.Native.Nat.{ℕ}
use native.Mathlib.Omega.{arith}
use lib.IntN.{ℤ}
use lib.ListN.{length}
use Rattle.std.specs.Prelude.{Result, Ok, Err}
use Rattle.ints.specs.Answer.{packed}
use Rattle.ints.specs.Refusals.{number}
use Rattle.ints.specs.declared.refusal.Refusal.{Refusal}
use Rattle.ints.proofs.Refusals.{number-apart, number-pos}
use Rattle.ints.proofs.Tests.{one_answer}
use Rattle.bg_move.specs.declared.Step.{Step}
use Rattle.bg_move.specs.declared.Steps.{Steps}
use Rattle.bg_move.specs.Answers.{Recovered, recovered_told, recovered_answer, row_answer, row_after}

-- what answers say tells them apart
recovered-apart : (r s : Result Steps Refusal) → recovered_told r ≡ recovered_told s → r ≡ s
recovered-apart (Ok s) (Ok t) e = ap (λ (a : Recovered). Ok a.steps) e
recovered-apart (Ok s) (Err r) e = let z : 0 ≡ number r = ap (λ (a : Recovered). a.refused) e in absurd (omega (arith, number-pos r))
recovered-apart (Err r) (Ok s) e = let z : number r ≡ 0 = ap (λ (a : Recovered). a.refused) e in absurd (omega (arith, number-pos r))
recovered-apart (Err q) (Err r) e = ap Err (number-apart q r (ap (λ (a : Recovered). a.refused) e))

pub recover-unique : (n : ℕ) (b : List ℤ) (d1 d2 : ℕ) (e : List ℤ) (r s : Result Steps Refusal)
    → recovered_told r ≡ recovered_answer n b d1 d2 e → recovered_told s ≡ recovered_answer n b d1 d2 e → r ≡ s
recover-unique n b d1 d2 e r s p q = recovered-apart r s (one_answer p q)

-- of the C function
pub row-unique : (n : ℕ) (b : List ℤ) (d1 d2 : ℕ) (e : List ℤ) (row : List Step) (r s : ℕ) (l m : List Step)
    → r ≡ packed (row_answer n b d1 d2 e (length row)) → l ≡ row_after n b d1 d2 e row
    → s ≡ packed (row_answer n b d1 d2 e (length row)) → m ≡ row_after n b d1 d2 e row → (r ≡ s) × (l ≡ m)
row-unique n b d1 d2 e row r s l m p u q v = (one_answer p q, one_answer u v)
