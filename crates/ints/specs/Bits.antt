-- Bits of numbers and of bytes; a list of bits stands low first.
use Rattle.std.specs.Prelude.{Bool, true, false, cond, ◌||◌, List, [], ◌∷◌, ◌++◌, ℕ, zero, suc, ◌+◌, ◌*◌, ◌/◌, ◌%◌, ◌^◌, ◌<◌, eqb, take, drop, get_or, set}

-- Binary digit i of m: whether it is 1.
abbrev pub bit : ℕ → ℕ → Bool
bit m i = eqb (m / 2 ^ i % 2) 1

-- The number that a binary digit is.
abbrev pub digit : Bool → ℕ
digit true = 1
digit false = 0

-- The n lowest bits of m.
unfoldable pub digits : ℕ → ℕ → List Bool
digits zero m = []
digits (suc n) m = eqb (m % 2) 1 ∷ digits n (m / 2)

-- The number whose bits these are.
unfoldable pub number : List Bool → ℕ
number [] = 0
number (b ∷ l) = number l * 2 + digit b

-- "Key": the bits of a list of bytes, eight a byte, so that bit k is bit k % 8 of byte k / 8.
unfoldable pub bits_of : List ℕ → List Bool
bits_of [] = []
bits_of (m ∷ l) = digits 8 m ++ bits_of l

-- The n bytes that have these bits.
unfoldable pub bytes_of : ℕ → List Bool → List ℕ
bytes_of zero l = []
bytes_of (suc n) l = number (take 8 l) ∷ bytes_of n (drop 8 l)

-- Each number of the list is a byte.
abbrev pub Bytes : List ℕ → Type 0
Bytes l = (k : ℕ) → get_or l k 0 < 256

-- The bits l with the 1s of ds set from bit i on: a field put where 0s stand.
unfoldable pub merged : List Bool → ℕ → List Bool → List Bool
merged l i [] = l
merged l i (d ∷ ds) = merged (cond d (set l i true) l) (suc i) ds

-- Whether a 1 is among these bits.
unfoldable pub some : List Bool → Bool
some [] = false
some (b ∷ l) = b || some l
