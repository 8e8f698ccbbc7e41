-- The 21 rolls and the 441 pairs of rolls: how many there are, what they weigh together, and which pair stands where.
use mathlib.Core.Path.{◌≡◌, refl, ◌∙◌}
use mathlib.Core.List.{foldr}
use Prim.Native.Nat.{ℕ, ◌+◌, ◌*◌, ◌/◌, ◌%◌, ◌<◌}
use native.Mathlib.Omega.{arith}
use lib.ListN.{length, get_or}
use Rattle.dice.specs.Rolls.{rolls, pair_of, pairs}
use Rattle.ints.proofs.Sums.{table_at}

-- the 21 rolls weigh 36: two dice fall in 36 ways
pub rolls-weigh-36 : (length rolls ≡ 21) × (foldr (λ entry total. entry / 256 + total) 0 rolls ≡ 36)
unfolding rolls
rolls-weigh-36 = (refl, refl)

-- the 441 pairs weigh 1,296, 36 times 36
pub pairs-weigh-1296 : (length pairs ≡ 441) × (foldr (λ entry total. entry / 65536 + total) 0 pairs ≡ 1296)
unfolding pairs
pairs-weigh-1296 = (refl, refl)

-- rolls i and j stand at 21 i + j
pub pair-at : (i j : ℕ) → i < 21 → j < 21 → get_or pairs (21 * i + j) 0 ≡ pair_of i j
unfolding pairs
pair-at i j hi hj =
    let first : (21 * i + j) / 21 ≡ i = omega arith in
    let second : (21 * i + j) % 21 ≡ j = omega arith in
    table_at (λ n. pair_of (n / 21) (n % 21)) 441 (21 * i + j) 0 (omega arith) ∙ rw (first, second)
