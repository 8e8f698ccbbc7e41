-- Games by the rules of play alone: no list of ends, no card.
use Rattle.std.specs.Prelude.{List, [], ◌∷◌, ℕ, ◌≤◌, ◌<◌, ℤ, length}
use Rattle.position.specs.Board.{Accepted, x_all, o_all, switched}
use Rattle.rules.specs.Plays.{LegalEnd}

-- "Refusal numbers" 22: a game has at most a thousand turns
abbrev pub turns_most : ℕ
turns_most = 1000

-- "Dice": a roll is its larger and its smaller die, so the order of the dice is apart; both show 1 to 6
pub record Roll (larger smaller : ℕ) : Type 0 where
  pub low : 1 ≤ smaller
  pub ordered : smaller ≤ larger
  pub high : larger ≤ 6

-- a turn: a roll, and the board where the mover's play stops, seen by the mover
pub record Turn : Type 0 where
  pub larger : ℕ
  pub smaller : ℕ
  pub stops : List ℤ

-- "Refusal numbers" 5 and 25: no side has all its checkers off
pub record Unfinished (b : List ℤ) : Type 0 where
  pub x : 0 < x_all b
  pub o : 0 < o_all b

-- "Game card": the board that the next turn is played from, the other side being the mover
abbrev pub next : Turn → List ℤ
next t = switched t.stops

-- the turns can be played from b: each with legal dice and one legal end, none after a finish
abbrev pub Played : List ℤ → List Turn → Type 0
Played b [] = Unit {0}
Played b (t ∷ ts) = Unfinished b × Roll t.larger t.smaller × LegalEnd b t.larger t.smaller t.stops × Played (next t) ts

-- a game of at most m turns, with n checkers a side: an accepted, unfinished start, and turns played from it
pub record Game (n m : ℕ) (start : List ℤ) (turns : List Turn) : Type 0 where
  pub accepted : Accepted n start
  pub unfinished : Unfinished start
  pub played : Played start turns
  pub few : length turns ≤ m

-- "Game card": the positions of a game, 0 the start, k the board after turn k and its switch
abbrev pub positions : List ℤ → List Turn → List (List ℤ)
positions b [] = b ∷ []
positions b (t ∷ ts) = b ∷ positions (next t) ts
