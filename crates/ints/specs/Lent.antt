-- A numbered list of records of w bytes, seen through lent memory: a window that begins at the record with number `from`.
-- The record with number k of a list es is `get_or es k []`, and the records one after another are `flatten es`.
use Rattle.std.specs.Prelude.{◌≡◌, cond, ◌&&◌, List, [], ◌∷◌, ℕ, suc, ◌-◌, ◌*◌, ◌/◌, leb, ltb, length}
use Rattle.std.proofs.lemmas.List.Edits.{sets}

-- Each record has w bytes.
abbrev pub Records : ℕ → List (List ℕ) → Type 0
Records w [] = Unit {0}
Records w (e ∷ es) = (length e ≡ w) × Records w es

-- The bytes o with the record e, whose number is n, stored at slot n - from, if o has the whole of that slot.
unfoldable pub store : ℕ → List ℕ → ℕ → ℕ → List ℕ → List ℕ
store w o from n e = cond (leb from n && ltb (n - from) (length o / w)) (sets o ((n - from) * w) e) o

-- The bytes o with the records es stored one by one, the first of which has the number n.
unfoldable pub written : ℕ → List ℕ → ℕ → ℕ → List (List ℕ) → List ℕ
written w o from n [] = o
written w o from n (e ∷ es) = written w (store w o from n e) from (suc n) es
