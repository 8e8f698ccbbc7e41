-- Two answers that meet one promise are equal, for each entry.
use Rattle.std.proofs.Common.{◌≡◌, refl, sym, ap, ◌∙◌, List, [], ◌∷◌, ℕ, ℤ, get_or, Result, Ok, Err}
use Rattle.std.specs.Prelude.{⊤}
use native.Mathlib.Omega.{arith}
use Rattle.ints.specs.Refusals.{number, refusal_in}
use Rattle.ints.specs.declared.refusal.Refusal.{Refusal}
use Rattle.ints.proofs.Tests.{one_answer}
use Rattle.ints.proofs.Refusals.{number-apart, number-pos, checks-apart}
use Rattle.position.specs.Phase.{phase_answer}
use Rattle.position.specs.Answers.{BoardAnswer, Judged, Started, Counted, board_told, switch_answer, step_answer, phase_number, phase_told}
use Rattle.position.specs.declared.Checkers.{Checkers}
use Rattle.position.specs.declared.Unaccepted.{Unaccepted}
use Rattle.position.specs.declared.phase.GamePhase.{GamePhase}
use Rattle.position.specs.declared.phase.GamePhase.TheVariants.{Contact, Race, WinNormal, WinGammon, WinBg, LoseNormal, LoseGammon, LoseBg}

pub refusal-unique : (n : ℕ) (b : List ℤ) (r s : ℕ) → Judged n b r → Judged n b s → r ≡ s
refusal-unique n b r s p q = one_answer p.is q.is

-- checkers told by both counts
same-checkers : (c d : Checkers) → c.x ≡ d.x → c.o ≡ d.o → c ≡ d
same-checkers c d e f =
    let with : ℕ → ℕ → Checkers = λ x o. record { x = x; o = o } in
    ap (λ (x : ℕ). with x c.o) e ∙ ap (with d.x) f

-- refused boards' refusals and checkers, told apart
same-unaccepted : (u v : Unaccepted) → u.why ≡ v.why → u.all ≡ v.all → u ≡ v
same-unaccepted u v e f =
    let with : Refusal → Checkers → Unaccepted = λ why all. record { why = why; all = all } in
    ap (λ (why : Refusal). with why u.all) e ∙ ap (with v.why) f

pub check-unique : (n : ℕ) (b : List ℤ) (r s : Result Checkers Unaccepted) → Counted n b r → Counted n b s → r ≡ s
check-unique n b (Ok c) (Ok d) p q = ap Ok (same-checkers c d (one_answer p.x q.x) (one_answer p.o q.o))
check-unique n b (Ok c) (Err s) p q = absurd (omega (arith, p.judged.is, q.judged.is, number-pos s.why))
check-unique n b (Err r) (Ok d) p q = absurd (omega (arith, p.judged.is, q.judged.is, number-pos r.why))
check-unique n b (Err r) (Err s) p q =
    ap Err
    (same-unaccepted r s (number-apart r.why s.why (one_answer p.judged.is q.judged.is))
    (same-checkers r.all s.all (one_answer p.x q.x) (one_answer p.o q.o)))

-- what is answered of a board tells a refusal from a board, and each from others
pub board_told-apart : (r s : Result (List ℤ) Refusal) → board_told r ≡ board_told s → r ≡ s
board_told-apart (Ok b) (Ok c) e = ap (λ (a : BoardAnswer). Ok a.board) e
board_told-apart (Ok b) (Err s) e =
    let f : 0 ≡ number s = ap (λ (a : BoardAnswer). a.refused) e in
    absurd (omega (arith, f, number-pos s))
board_told-apart (Err r) (Ok c) e =
    let f : number r ≡ 0 = ap (λ (a : BoardAnswer). a.refused) e in
    absurd (omega (arith, f, number-pos r))
board_told-apart (Err r) (Err s) e = ap Err (number-apart r s (ap (λ (a : BoardAnswer). a.refused) e))

pub switch-unique : (n : ℕ) (b : List ℤ) (r s : Result (List ℤ) Refusal)
    → board_told r ≡ switch_answer n b → board_told s ≡ switch_answer n b → r ≡ s
switch-unique n b r s p q = board_told-apart r s (one_answer p q)

pub step-unique : (n : ℕ) (b : List ℤ) (p d : ℕ) (r s : Result (List ℤ) Refusal)
    → board_told r ≡ step_answer n b p d → board_told s ≡ step_answer n b p d → r ≡ s
step-unique n b p d r s e f = board_told-apart r s (one_answer e f)

-- the phase that has a number
phase : ℕ → GamePhase
phase n = get_or (Contact ∷ Race ∷ WinNormal ∷ WinGammon ∷ WinBg ∷ LoseNormal ∷ LoseGammon ∷ []) n LoseBg

phase-numbered : (p : GamePhase) → phase (phase_number p) ≡ p
unfolding phase
phase-numbered Contact = refl
phase-numbered Race = refl
phase-numbered WinNormal = refl
phase-numbered WinGammon = refl
phase-numbered WinBg = refl
phase-numbered LoseNormal = refl
phase-numbered LoseGammon = refl
phase-numbered LoseBg = refl

phase-apart : (r s : Result GamePhase Refusal) → phase_told r ≡ phase_told s → r ≡ s
phase-apart (Ok p) (Ok q) e =
    let f : phase_number p ≡ phase_number q = cc in
    ap Ok (sym (phase-numbered p) ∙ ap phase f ∙ phase-numbered q)
phase-apart (Ok p) (Err s) e = cc
phase-apart (Err r) (Ok q) e = cc
phase-apart (Err r) (Err s) e = let f : number r ≡ number s = cc in ap Err (number-apart r s f)

pub phase-unique : (n : ℕ) (b : List ℤ) (r s : Result GamePhase Refusal)
    → phase_told r ≡ phase_answer n b → phase_told s ≡ phase_answer n b → r ≡ s
phase-unique n b r s p q = phase-apart r s (one_answer p q)

pub start-refusal-unique : (n : ℕ) (b : List ℤ) (r s : ℕ) → Started n b r → Started n b s → r ≡ s
start-refusal-unique n b r s p q = one_answer p.is q.is

pub check-start-unique : (n : ℕ) (b : List ℤ) (r s : Result ⊤ Refusal) → Started n b (refusal_in r) → Started n b (refusal_in s) → r ≡ s
check-start-unique n b r s p q = checks-apart r s (one_answer p.is q.is)
