-- The list computed at closed boards: how many ends there are, and in which order they stand.
use mathlib.Core.Path.{◌≡◌, refl}
use mathlib.Core.List.{List, [], ◌∷◌, map}
use Prim.Native.Nat.{ℕ}
use lib.IntN.{ℤ, pos, negsuc}
use lib.ListN.{length}
use Rattle.ints.specs.Sums.{all}
use Rattle.position.specs.Board.{start}
use Rattle.position.specs.Step.{can_step, clear_from, off_from, stepped, lifted, landed}
use Rattle.position.specs.Words.{blank, x, o}
use Rattle.rules.specs.Ends.{ends_of}

start-mixed : length (ends_of start 3 1) ≡ 16
unfolding ends_of can_step clear_from off_from all stepped lifted landed
start-mixed = refl

start-double : length (ends_of start 3 3) ≡ 73
unfolding ends_of can_step clear_from off_from all stepped lifted landed
start-double = refl

-- double 1 from here has the most ends that a search found: fifteen lone x, most of them two and two with a free point between, and one o,
-- on its bar
abbrev spread : List ℤ
spread =
    negsuc 0 ∷ pos 0 ∷ pos 0 ∷ pos 1 ∷ pos 1 ∷ pos 0 ∷ pos 1 ∷ pos 1 ∷ pos 0 ∷ pos 1 ∷ pos 1 ∷ pos 0 ∷ pos 1 ∷ pos 1 ∷ pos 0 ∷ pos 1
    ∷ pos 1 ∷ pos 0 ∷ pos 1 ∷ pos 1 ∷ pos 0 ∷ pos 1 ∷ pos 1 ∷ pos 0 ∷ pos 1 ∷ pos 0 ∷ []

most-found : length (ends_of spread 1 1) ≡ 2226
unfolding ends_of can_step clear_from off_from all stepped lifted landed
most-found = refl

-- the order inside each half: smaller die first from the top down, then larger first from low to high
abbrev xs-on : ℕ → ℕ → ℕ → List ℤ → List ℤ
xs-on p q r b = x p 1 (x q 1 (x r 1 b))

order-of-halves : ends_of (xs-on 13 9 5 (o 20 1 blank)) 2 1
    ≡ map (λ f. f (o 20 1 blank)) (xs-on 10 9 5 ∷ xs-on 12 7 5 ∷ xs-on 12 9 3 ∷ xs-on 13 6 5 ∷ xs-on 13 8 3 ∷ xs-on 13 9 2 ∷ xs-on 13 7 4 ∷ xs-on 11 9 4 ∷ xs-on 11 8 5 ∷ [])
unfolding ends_of can_step clear_from off_from all stepped lifted landed
order-of-halves = refl

-- one on the bar: entered with the larger die, then with the smaller, origins low to high
order-from-bar : ends_of (xs-on 25 8 6 (o 0 1 blank)) 2 1
    ≡ map (λ f. f (o 0 1 blank)) (xs-on 23 8 5 ∷ xs-on 23 7 6 ∷ xs-on 22 8 6 ∷ xs-on 24 8 4 ∷ (λ b. x 24 1 (x 6 2 b)) ∷ [])
unfolding ends_of can_step clear_from off_from all stepped lifted landed
order-from-bar = refl

-- one die alone, and a double: low to high
order-of-one : ends_of (x 9 1 (x 7 1 (o 2 2 (o 4 2 blank)))) 6 5 ≡ x 9 1 (x 1 1 (o 2 2 (o 4 2 blank))) ∷ x 7 1 (x 3 1 (o 2 2 (o 4 2 blank))) ∷ []
unfolding ends_of can_step clear_from off_from all stepped lifted landed
order-of-one = refl

order-of-double : ends_of (x 6 1 (x 4 1 (o 20 1 blank))) 1 1
    ≡ map (λ f. f (o 20 1 blank)) (x 6 1 ∷ (λ b. x 5 1 (x 1 1 b)) ∷ (λ b. x 4 1 (x 2 1 b)) ∷ x 3 2 ∷ [])
unfolding ends_of can_step clear_from off_from all stepped lifted landed
order-of-double = refl

-- document 01, "Boards to try", 2, 4 and 7, where the list of a wrong rule is another: the bear-off by the 6 alone, which would be
-- one die of two; either die, but not both, so the larger; and one checker that stops over on either of two points
both-dice : ends_of (x 5 1 (o 20 1 (o 4 1 blank))) 6 1 ≡ o 20 1 (o 0 1 blank) ∷ []
unfolding ends_of can_step clear_from off_from all stepped lifted landed
both-dice = refl

larger-alone : ends_of (x 25 1 (o 14 2 blank)) 6 5 ≡ x 19 1 (o 14 2 blank) ∷ []
unfolding ends_of can_step clear_from off_from all stepped lifted landed
larger-alone = refl

both-stopovers : ends_of (x 13 1 (o 12 1 blank)) 2 1 ≡ x 10 1 (o 0 1 blank) ∷ x 10 1 (o 12 1 blank) ∷ []
unfolding ends_of can_step clear_from off_from all stepped lifted landed
both-stopovers = refl
