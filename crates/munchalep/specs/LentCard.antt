-- A card's position that is answered into lent memory (document 01, "Refusal numbers": lent memory stays where a call is refused).
use Rattle.std.specs.Prelude.{◌≡◌, List, ℕ, ◌+◌, ◌*◌, ℤ}
use Rattle.card.specs.Answers.{PositionAnswer}
use Rattle.munchalep.specs.Lent.{after}

-- the number r and the out parameter after an answer: the refusal's number, 0 for none, and 256 times its place in the card; and every
-- lent byte
pub record PutPosition (a : PositionAnswer) (out : List ℤ) (r : ℕ) (out' : List ℤ) : Type 0 where
  pub number : r ≡ a.refused + 256 * a.at
  pub lent : out' ≡ after a.refused a.board out
