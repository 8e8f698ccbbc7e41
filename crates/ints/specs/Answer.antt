-- What an entry answers that carries no board, in document 01's words ("Refusal numbers").
use Rattle.std.specs.Prelude.{ℕ, ◌+◌, ◌*◌}

-- a value; or a refusal's number and what document 01 lets it carry (the count for 10, the byte offset in a card, else 0)
pub data Answer : Type 0 where
  value : ℕ → Answer
  refused : ℕ → ℕ → Answer

-- the one number that the C interface answers: the refusal's number, 0 for none, and 256 times the value or what the refusal carries
abbrev pub packed : Answer → ℕ
packed (value n) = 256 * n
packed (refused k n) = k + 256 * n

-- the value, or what the refusal carries
abbrev pub carried : Answer → ℕ
carried (value n) = n
carried (refused k n) = n
