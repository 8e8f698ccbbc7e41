-- Two answers that meet one promise are equal, for each entry.
use Rattle.std.proofs.Common.{◌≡◌, sym, ap, ◌∙◌, ℕ, List, Result, Ok, Err}
use lib.IntN.{ℤ}
use native.Mathlib.Omega.{arith}
use Rattle.ints.specs.declared.refusal.Refusal.{Refusal}
use Rattle.ints.proofs.Refusals.{number-apart, number-pos}
use Rattle.position.specs.Answers.{board_told}
use Rattle.position.proofs.Unique.{board_told-apart}
use Rattle.key.specs.Key.{KeyAnswer, key_told, key_answer, board_of_key_answer}

-- what is answered of a board tells a refusal from a key, and each from others
key_told-apart : (r s : Result (List ℕ) Refusal) → key_told r ≡ key_told s → r ≡ s
key_told-apart (Ok k) (Ok l) e = ap Ok (ap (λ (a : KeyAnswer). a.key) e)
key_told-apart (Ok k) (Err s) e = let f = ap (λ (a : KeyAnswer). a.refused) e in absurd (omega (arith, number-pos s))
key_told-apart (Err r) (Ok l) e = let f = ap (λ (a : KeyAnswer). a.refused) e in absurd (omega (arith, number-pos r))
key_told-apart (Err r) (Err s) e = ap Err (number-apart r s (ap (λ (a : KeyAnswer). a.refused) e))

pub encode-unique : (n : ℕ) (b : List ℤ) (r s : Result (List ℕ) Refusal) → key_told r ≡ key_answer n b → key_told s ≡ key_answer n b → r ≡ s
encode-unique n b r s p q = key_told-apart r s (p ∙ sym q)

pub decode-unique : (n : ℕ) (k : List ℕ) (r s : Result (List ℤ) Refusal) → board_told r ≡ board_of_key_answer n k → board_told s ≡ board_of_key_answer n k → r ≡ s
decode-unique n k r s p q = board_told-apart r s (p ∙ sym q)
