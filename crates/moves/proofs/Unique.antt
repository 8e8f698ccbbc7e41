-- Two answers, and two states of lent memory, that meet one promise are equal, for each entry.
use Rattle.std.proofs.Common.{◌≡◌, List, ℕ, ℤ, length, Result}
use Rattle.std.specs.Prelude.{⊤}
use Rattle.ints.specs.Refusals.{refusal_in, told, told_with}
use Rattle.ints.specs.declared.refusal.Refusal.{Refusal}
use Rattle.ints.specs.declared.refusal.Refused.{Refused}
use Rattle.ints.proofs.Tests.{one_answer}
use Rattle.ints.proofs.Refusals.{checks-apart, told-apart, told_with-apart}
use Rattle.position.specs.Answers.{board_told}
use Rattle.position.proofs.Unique.{board_told-apart}
use Rattle.moves.specs.Answers.{Playable, list_answer, listed_in, count_answer, end_answer}

pub play-refusal-unique : (n : ℕ) (b : List ℤ) (d1 d2 r s : ℕ) → Playable n b d1 d2 r → Playable n b d1 d2 s → r ≡ s
play-refusal-unique n b d1 d2 r s p q = one_answer p.is q.is

pub check-play-unique : (n : ℕ) (b : List ℤ) (d1 d2 : ℕ) (r s : Result ⊤ Refusal) → Playable n b d1 d2 (refusal_in r) → Playable n b d1 d2 (refusal_in s) → r ≡ s
check-play-unique n b d1 d2 r s p q = checks-apart r s (one_answer p.is q.is)

pub count-unique : (n : ℕ) (b : List ℤ) (d1 d2 : ℕ) (r s : Result ℕ Refusal) → told r ≡ count_answer n b d1 d2 → told s ≡ count_answer n b d1 d2 → r ≡ s
count-unique n b d1 d2 r s p q = told-apart r s (one_answer p q)

pub end-unique : (n : ℕ) (b : List ℤ) (d1 d2 k : ℕ) (r s : Result (List ℤ) Refusal) → board_told r ≡ end_answer n b d1 d2 k
    → board_told s ≡ end_answer n b d1 d2 k → r ≡ s
end-unique n b d1 d2 k r s p q = board_told-apart r s (one_answer p q)

pub list-unique : (n : ℕ) (b : List ℤ) (d1 d2 : ℕ) (out : List ℕ) (r s : Result ℕ Refused) (l m : List ℕ)
    → told_with r ≡ list_answer n b d1 d2 (length out) → l ≡ listed_in n b d1 d2 out
    → told_with s ≡ list_answer n b d1 d2 (length out) → m ≡ listed_in n b d1 d2 out → (r ≡ s) × (l ≡ m)
list-unique n b d1 d2 out r s l m p u q v = (told_with-apart r s (one_answer p q), one_answer u v)
