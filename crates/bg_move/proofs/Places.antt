-- The four places of up to four steps: the steps of a list, then zeros.
-- Assumes nothing.
use mathlib.Core.Path.{◌≡◌, refl}
use mathlib.Core.List.{List, [], ◌∷◌, ◌++◌}
use Prim.Native.Nat.{ℕ, ◌≤◌, ◌<◌}
use native.Mathlib.Omega.{arith}
use lib.ListN.{length, set, drop}
use Rattle.bg_move.specs.declared.Step.{Step}
use Rattle.bg_move.specs.Answers.{places}

-- steps copied to the first of four empty places
pub placed : (ts : List Step) → length ts ≤ 4 → ts ++ drop (length ts) (places []) ≡ places ts
placed [] h = refl
placed (s ∷ []) h = refl
placed (s ∷ t ∷ []) h = refl
placed (s ∷ t ∷ u ∷ []) h = refl
placed (s ∷ t ∷ u ∷ v ∷ []) h = refl
placed (s ∷ t ∷ u ∷ v ∷ w ∷ ts) h = absurd (omega arith)

-- one more step, in the next place
pub placed_more : (ts : List Step) (t : Step) (n : ℕ) → length ts ≡ n → n < 4 → set (places ts) n t ≡ places (ts ++ t ∷ [])
placed_more ts t n e h = rw (← e) (go ts (omega arith))
  where
    go : (ts : List Step) → length ts < 4 → set (places ts) (length ts) t ≡ places (ts ++ t ∷ [])
    go [] h = refl
    go (s ∷ []) h = refl
    go (s ∷ u ∷ []) h = refl
    go (s ∷ u ∷ v ∷ []) h = refl
    go (s ∷ u ∷ v ∷ w ∷ ts) h = absurd (omega arith)
