-- The card of a game (document 01, "Game card").
use Rattle.std.specs.Prelude.{List, [], ◌∷◌, ◌++◌, ℕ, ◌/◌, ◌%◌, ℤ}
use Rattle.dice.specs.Rolls.{byte_of}
use Rattle.rules.specs.Ends.{ends_of}
use Rattle.key.specs.Key.{key_of}
use Rattle.end_number.specs.Number.{place}
use Rattle.card.specs.Game.{Turn, next}

-- "Game card": a start record is its mark and the ten key bytes
abbrev pub start_record : List ℤ → List ℕ
start_record b = 0x53 ∷ 0x54 ∷ key_of b

-- "Game card": a turn record is its mark, the dice byte, and the end's number in two bytes, low first
abbrev pub turn_record : ℕ → ℕ → ℕ → List ℕ
turn_record larger smaller number = 0x54 ∷ 0x55 ∷ byte_of larger smaller ∷ number % 256 ∷ number / 256 ∷ []

-- "Game card": the end's number is its place in the list of the roll's ends
abbrev pub record_of : List ℤ → Turn → List ℕ
record_of b t = turn_record t.larger t.smaller (place t.stops (ends_of b t.larger t.smaller))

-- "Game card": the records of turns played from b
abbrev pub records_of : List ℤ → List Turn → List ℕ
records_of b [] = []
records_of b (t ∷ ts) = record_of b t ++ records_of (next t) ts

-- "Game card": the card of a game
abbrev pub card_of : List ℤ → List Turn → List ℕ
card_of start turns = start_record start ++ records_of start turns
