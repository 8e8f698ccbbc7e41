-- Two answers, and two states of lent memory, that meet one promise are equal, for each entry.
use mathlib.Core.Path.{◌≡◌, ap}
use mathlib.Core.List.{List}
use Prim.Native.Nat.{ℕ}
use native.Mathlib.Omega.{arith}
use lib.IntN.{ℤ}
use lib.ListN.{length}
use Rattle.ints.proofs.Tests.{one_answer}
use Rattle.std.specs.Prelude.{Result, Ok, Err}
use Rattle.ints.specs.declared.refusal.Refused.{Refused}
use Rattle.ints.proofs.Refusals.{number-pos, refused-apart, told_with-apart}
use Rattle.card.specs.Read.{read_answer}
use Rattle.card.specs.Answers.{card_told, PositionAnswer, position_told, position_answer, begin_answer, begun_in, add_answer, added_in}

-- a position or a refusal is told apart by what it says
pub position-apart : (r s : Result (List ℤ) Refused) → position_told r ≡ position_told s → r ≡ s
position-apart (Ok b) (Ok c) e = ap Ok (ap (λ (x : PositionAnswer). x.board) e)
position-apart (Ok b) (Err s) e = let z = ap (λ (x : PositionAnswer). x.refused) e in absurd (omega (arith, z, number-pos s.why))
position-apart (Err r) (Ok c) e = let z = ap (λ (x : PositionAnswer). x.refused) e in absurd (omega (arith, z, number-pos r.why))
position-apart (Err r) (Err s) e =
    ap Err (refused-apart r s (ap (λ (x : PositionAnswer). x.refused) e) (ap (λ (x : PositionAnswer). x.at) e))

pub read-unique : (n m : ℕ) (card : List ℕ) (r s : Result ℕ Refused) → card_told r ≡ read_answer n m card → card_told s ≡ read_answer n m card → r ≡ s
read-unique n m card r s p q = told_with-apart r s (one_answer p q)

pub position-unique : (n m : ℕ) (card : List ℕ) (k : ℕ) (r s : Result (List ℤ) Refused)
    → position_told r ≡ position_answer n m card k → position_told s ≡ position_answer n m card k → r ≡ s
position-unique n m card k r s p q = position-apart r s (one_answer p q)

pub begin-unique : (n : ℕ) (b : List ℤ) (buffer : List ℕ) (r s : Result ℕ Refused) (l k : List ℕ)
    → card_told r ≡ begin_answer n b (length buffer) → l ≡ begun_in n b buffer
    → card_told s ≡ begin_answer n b (length buffer) → k ≡ begun_in n b buffer → (r ≡ s) × (l ≡ k)
begin-unique n b buffer r s l k p u q v = (told_with-apart r s (one_answer p q), one_answer u v)

pub add-unique : (n m : ℕ) (buffer : List ℕ) (len d1 d2 : ℕ) (e : List ℤ) (r s : Result ℕ Refused) (l k : List ℕ)
    → card_told r ≡ add_answer n m buffer len d1 d2 e → l ≡ added_in n m buffer len d1 d2 e
    → card_told s ≡ add_answer n m buffer len d1 d2 e → k ≡ added_in n m buffer len d1 d2 e → (r ≡ s) × (l ≡ k)
add-unique n m buffer len d1 d2 e r s l k p u q v = (told_with-apart r s (one_answer p q), one_answer u v)
