-- What it is to count the records that a test finds.
use Rattle.std.specs.Prelude.{◌≡◌, ℕ, ◌+◌, Bool}
use Rattle.std.specs.Int.{from_bool}

-- one more call of the test, at a record: from a state of the test and a count to the next ones
abbrev pub Counts : {F T : Type 0} → (F → T → Bool → F → Type 0) → F × ℕ → T → F × ℕ → Type 0
Counts calls p x q = (found : Bool) × calls p.0 x found q.0 × (q.1 ≡ p.1 + from_bool found)
