-- A single step of one checker (document 01, "Steps and ends"): when it is legal, and the board after it.
use Rattle.std.specs.Prelude.{◌≡◌, Bool, cond, ◌&&◌, List, ℕ, ◌+◌, ◌-◌, ◌≤◌, ◌<◌, ltb, leb, eqb, ℤ, pos, length, set}
use Rattle.std.proofs.Math.IntN.{suc_ℤ, pred_ℤ}
use Rattle.ints.specs.Sums.{all}
use Rattle.dice.specs.Dice.{is_die}
use Rattle.position.specs.Board.{entry, xs, os, refusal_of}

-- what the laws of a step ask of a board: 26 entries, and no x on o's bar; every accepted board has both
pub record Good (b : List ℤ) : Type 0 where
  pub size : length b ≡ 26
  pub o-bar : xs b 0 ≡ 0

-- "Steps and ends": no x stands on the points from lo to 24
unfoldable pub clear_from : List ℤ → ℕ → Bool
clear_from b lo = all (λ k. eqb (xs b (lo + k)) 0) (25 - lo)

-- "Steps and ends": a checker borne off from p by d, p at most d, asks for no x from 7 on where p = d, and from p + 1 on where p < d
unfoldable pub off_from : ℕ → ℕ → ℕ
off_from p d = cond (eqb p d) 7 (p + 1)

-- "Steps and ends": x has a checker on p; p is 25 exactly if x's bar is not empty; the checker lands where o has at most one, or
-- is borne off with no x from `off_from` on
unfoldable pub can_step : List ℤ → ℕ → ℕ → Bool
can_step b p d =
    ltb 0 (xs b p)
    && cond (eqb p 25) (ltb 0 (xs b 25)) (eqb (xs b 25) 0)
    && cond (ltb d p) (leb (os b (p - d)) 1) (clear_from b (off_from p d))

-- the same rule, for a point up to 25, as a record of plain facts
pub record Legal (b : List ℤ) (p d : ℕ) : Type 0 where
  pub has : 0 < xs b p
  pub bar : p < 25 → xs b 25 ≡ 0
  pub on : d < p → os b (p - d) ≤ 1
  pub off : p ≤ d → (i : ℕ) → off_from p d ≤ i → i < 25 → xs b i ≡ 0

-- "Steps and ends": the step takes one checker from p
unfoldable pub lifted : List ℤ → ℕ → List ℤ
lifted b p = set b p (pred_ℤ (entry b p))

-- "Steps and ends": it adds one to t; a lone o there first goes to o's bar, entry 0, where one o more is one less
unfoldable pub landed : List ℤ → ℕ → List ℤ
landed b t = cond (eqb (os b t) 1) (lifted (set b t (pos 1)) 0) (set b t (suc_ℤ (entry b t)))

-- "Steps and ends": a step from p by d lands on p - d if p > d, otherwise the checker is off
unfoldable pub stepped : List ℤ → ℕ → ℕ → List ℤ
stepped b p d = cond (ltb d p) (landed (lifted b p) (p - d)) (lifted b p)

-- "Refusal numbers", order: board 1 to 4, then 7 for a die outside 1 to 6, 8 for a point above 25, 9 for a step that is not legal; 0 for none
unfoldable pub step_refusal : ℕ → List ℤ → ℕ → ℕ → ℕ
step_refusal n b p d =
    cond (ltb 0 (refusal_of n b)) (refusal_of n b)
    (cond (is_die d) (cond (ltb 25 p) 8 (cond (can_step b p d) 0 9)) 7)
