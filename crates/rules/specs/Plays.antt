-- Which ends a roll leads to (document 01, "Steps and ends", and what a legal end is, below): plays alone, with no list, no order and no shortcut.
use Rattle.std.specs.Prelude.{◌≡◌, ◌⊎◌, true, cond, List, [], ◌∷◌, ℕ, zero, suc, ◌≤◌, min, max, eqb, ℤ, replicate}
use Rattle.position.specs.Step.{can_step, stepped}

-- "Steps and ends": the dice of a roll, each used at most once, a double's die at most four times
unfoldable pub dice_rolled : ℕ → ℕ → List ℕ
dice_rolled d1 d2 = cond (eqb d1 d2) (replicate 4 d1) (max d1 d2 ∷ min d1 d2 ∷ [])

-- P holds of one of the dice and of the dice that are left without it
abbrev pub AnyDie : List ℕ → (ℕ → List ℕ → Type 0) → Type 0
AnyDie [] P = ⊥
AnyDie (d ∷ ds) P = P d ds ⊎ AnyDie ds (λ e rest. P e (d ∷ rest))

-- "Steps and ends": a play from b to e uses n of the dice in any order, each for one legal step
abbrev pub Play : ℕ → List ℕ → List ℤ → List ℤ → Type 0
Play zero ds b e = e ≡ b
Play (suc n) ds b e = AnyDie ds (λ d rest. (p : ℕ) × (can_step b p d ≡ true) × Play n rest (stepped b p d) e)

-- a legal end is where a play stops that uses the most dice possible, the larger die if only one can be used and the
-- larger could, or the unchanged board if none can (a play of no dice)
pub record LegalEnd (b : List ℤ) (d1 d2 : ℕ) (e : List ℤ) : Type 0 where
  pub used : ℕ
  pub play : Play used (dice_rolled d1 d2) b e
  pub most : (n : ℕ) (f : List ℤ) → Play n (dice_rolled d1 d2) b f → n ≤ used
  pub larger : used ≡ 1 → (p : ℕ) → can_step b p (max d1 d2) ≡ true → Play 1 (max d1 d2 ∷ []) b e
