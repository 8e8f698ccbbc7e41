-- The promise of `text` leaves one answer, and one content of the lent memory.
-- Assumes nothing.
use Rattle.std.proofs.Common.{◌≡◌, ◌↔◌, ◌≤◌, ℕ, List, length, Option, None, Some, IsSome, ap, refl}
use Rattle.ints.proofs.Tests.{one_answer}
use Rattle.card_text.specs.Text.{text_told, text_room, text_answer, text_in}

same_told : (r s : Option ℕ) → text_told r ≡ text_told s → (IsSome r ↔ IsSome s) → r ≡ s
same_told None None e h = refl
same_told None (Some k) e h = let f = h.1 refl in cc
same_told (Some j) None e h = let f = h.0 refl in cc
same_told (Some j) (Some k) e h = ap Some e

pub text-unique : (n m : ℕ) (card out : List ℕ) (r s : Option ℕ) (l k : List ℕ)
    → (text_told r ≡ text_answer n m card (length out)) × (l ≡ text_in n m card out) × (IsSome r ↔ (text_room m ≤ length out))
    → (text_told s ≡ text_answer n m card (length out)) × (k ≡ text_in n m card out) × (IsSome s ↔ (text_room m ≤ length out)) → (r ≡ s) × (l ≡ k)
text-unique n m card out r s l k p q =
    (same_told r s (one_answer p.0 q.0) (λ a. q.2.1 (p.2.0 a), λ b. p.2.1 (q.2.0 b)), one_answer p.1 q.1)
