-- The dice byte, the 21 rolls and the 441 pairs of rolls. The contracts of `roll` and `pair` cite `rolls` and `pairs`.
use Rattle.std.specs.Prelude.{List, ◌∷◌, ◌++◌, ℕ, suc, ◌+◌, ◌-◌, ◌*◌, ◌/◌, ◌%◌, get_or}
use Rattle.ints.specs.Sums.{values}

-- Document 01, "Dice": a roll's byte is the larger die times 16, plus the smaller die.
abbrev pub byte_of : ℕ → ℕ → ℕ
byte_of larger smaller = larger * 16 + smaller

-- Document 01, "Dice": a small die has its double, of weight 1, then its mixed rolls upward, of weight 2. Ours: a roll's number is its weight times 256, plus its byte.
unfoldable pub rolls_of : ℕ → List ℕ
unfolding values
rolls_of small =
    (1 * 256 + byte_of small small) ∷ values (λ large. 2 * 256 + byte_of large small) (suc small) (6 - small)

-- Document 01, "Dice": the 21 rolls go by the small die, from 1 to 6.
unfoldable pub rolls : List ℕ
unfolding rolls_of
rolls = rolls_of 1 ++ rolls_of 2 ++ rolls_of 3 ++ rolls_of 4 ++ rolls_of 5 ++ rolls_of 6

-- Document 01, "Dice": the weight of roll i.
unfoldable pub weight : ℕ → ℕ
unfolding rolls
weight i = get_or rolls i 0 / 256

-- Document 01, "Dice": the dice byte of roll i.
unfoldable pub byte : ℕ → ℕ
unfolding rolls
byte i = get_or rolls i 0 % 256

-- Document 01, "Dice": a pair's number is the product of the weights times 65536, plus the first byte times 256, plus the second.
unfoldable pub pair_of : ℕ → ℕ → ℕ
unfolding weight byte
pair_of i j = weight i * weight j * 65536 + byte i * 256 + byte j

-- Document 01, "Dice": of the 441 pairs that of rolls i and j stands at n = 21 i + j, so i is n / 21 and j is n % 21.
unfoldable pub pairs : List ℕ
unfolding values pair_of
pairs = values (λ n. pair_of (n / 21) (n % 21)) 0 441
