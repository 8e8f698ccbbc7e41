-- Plays in general: each step takes one of the dice that are left.
-- Assumes nothing.
use mathlib.Core.Path.{◌≡◌, refl, ap}
use mathlib.Core.Logic.{inl, inr}
use mathlib.Core.Bool.{true}
use mathlib.Core.List.{List, [], ◌∷◌}
use Prim.Native.Nat.{ℕ, zero, suc, ◌≤◌}
use native.Mathlib.Omega.{arith}
use lib.IntN.{ℤ}
use lib.ListN.{length}
use Rattle.position.specs.Step.{can_step, stepped}
use Rattle.rules.specs.Plays.{AnyDie, Play}

any-rest : (ds : List ℕ) (P : ℕ → List ℕ → Type 0) → AnyDie ds P → (d : ℕ) × (rest : List ℕ) × (length ds ≡ suc (length rest)) × P d rest
any-rest [] P a = absurd a
any-rest (d ∷ ds) P (inl x) = (d, ds, refl, x)
any-rest (d ∷ ds) P (inr y) = let r = any-rest ds (λ e rest. P e (d ∷ rest)) y in (r.0, d ∷ r.1, ap suc r.2, r.3)

-- the first step of a play, and the play that is left
pub play-first : (n : ℕ) (ds : List ℕ) (b e : List ℤ) → Play (suc n) ds b e
    → (d : ℕ) × (rest : List ℕ) × (length ds ≡ suc (length rest)) × ((p : ℕ) × (can_step b p d ≡ true) × Play n rest (stepped b p d) e)
play-first n ds b e a = any-rest ds (λ d rest. (p : ℕ) × (can_step b p d ≡ true) × Play n rest (stepped b p d) e) a

-- a play has no more steps than there are dice
pub play-most : (n : ℕ) (ds : List ℕ) (b e : List ℤ) → Play n ds b e → n ≤ length ds
play-most zero ds b e q = omega arith
play-most (suc n) ds b e a =
    let r = play-first n ds b e a in
    omega (arith, r.2, play-most n r.1 (stepped b r.3.0 r.0) e r.3.2)
