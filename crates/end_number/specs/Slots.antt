-- The window that moves over the list of ends: slots of 26 bytes, an end in each (document 01, "Steps and ends").
use Rattle.std.specs.Prelude.{◌≡◌, Option, Some, None, List, map, ℕ, ◌*◌, ◌<◌, ℤ, take, drop}
use Rattle.ints.specs.Twos.{from_twos}

-- slot k holds the board e
unfoldable pub Holds : List ℕ → ℕ → List ℤ → Type 0
Holds slots k e = map from_twos (take 26 (drop (k * 26) slots)) ≡ e

-- r is the first of n slots that holds e, or none does
abbrev pub FirstHeld : List ℕ → ℕ → List ℤ → Option ℕ → Type 0
FirstHeld slots n e (Some i) = (i < n) × Holds slots i e × ((k : ℕ) → k < i → Holds slots k e → ⊥)
FirstHeld slots n e None = (k : ℕ) → k < n → Holds slots k e → ⊥
