-- What the functions answer that tell the turns of a card. Nothing here is a rule: it cuts the text at its turns.
use Rattle.std.specs.Prelude.{◌≡◌, List, ℕ, ◌+◌, ◌*◌, ◌≤◌, ◌<◌, ℤ, get_or}
use Rattle.position.specs.Board.{checkers, Accepted, x_all, o_all}
use Rattle.moves.specs.Answers.{ends_count}
use Rattle.card.specs.Read.{larger, smaller, end_number, after_turn, board_after}
use Rattle.card_text.specs.declared.Turn.{Turn}
use Rattle.card_text.specs.declared.Turns.{Turns}
use Rattle.card_text.specs.Text.{lines_of}
use Rattle.card_text.specs.Wrote.{Wrote}

-- an accepted board with a checker on it: result and phase are told of it
pub record HasPhase (b : List ℤ) : Type 0 where
  pub accepted : Accepted checkers b
  pub some : 0 < x_all b + o_all b

-- what a turn's line tells of the turn from b whose record the bytes r begin with, and the board after it
pub record ToldTurn (b : List ℤ) (r : List ℕ) (t : Turn) : Type 0 where
  pub dice : t.dice ≡ get_or r 2 0
  pub number : t.number ≡ end_number r
  pub count : t.count ≡ ends_count b (larger r) (smaller r)
  pub after : t.after ≡ after_turn b r
  pub ok : HasPhase t.after

-- the lines of a card's first turns are put from byte `from` on, and the board after them is told
pub record PutTurns (card : List ℕ) (turns from : ℕ) (out : List ℕ) (r : Turns) (out' : List ℕ) : Type 0 where
  pub wrote : Wrote out from (lines_of card turns) r.at out'
  pub near : r.at ≤ from + 42 * turns
  pub last : r.last ≡ board_after card turns
  pub ok : HasPhase r.last
