-- What a function leaves that puts text into lent memory.
use Rattle.std.specs.Prelude.{◌≡◌, List, ℕ, ◌+◌, length}
use Rattle.std.proofs.lemmas.List.Edits.{sets}

-- the bytes stand in the memory from byte `from` on, all others are as they were, and `to` is the place after the last of them
pub record Wrote (out : List ℕ) (from : ℕ) (bytes : List ℕ) (to : ℕ) (out' : List ℕ) : Type 0 where
  pub next : to ≡ from + length bytes
  pub lent : out' ≡ sets out from bytes
