-- The second half of a mixed roll's list with its repeats left out by rule, boards not compared (document 01, "List order").
use Rattle.std.specs.Prelude.{Bool, cond, ◌&&◌, List, [], ℕ, ◌+◌, ◌-◌, eqb, ℤ}
use Rattle.position.specs.Board.{os}
use Rattle.position.specs.Step.{clear_from}
use Rattle.rules.specs.Ends.{up, after, only}

-- whether a step from p by d and then one from q by e move one checker, and o stands on neither point where either order would stop over
unfoldable pub omits : List ℤ → ℕ → ℕ → ℕ → ℕ → Bool
omits b d e p q = eqb q (p - d) && eqb (os b (p - d)) 0 && eqb (os b (p - e)) 0

-- the end of a step from q by e on the board c that a step from p by d made of b; nothing where it is omitted or not legal
unfoldable pub unless_omitted : List ℤ → ℕ → ℕ → ℕ → List ℤ → ℕ → List (List ℤ)
unfolding after omits
unless_omitted b d e p c q = cond (omits b d e p q) [] (after c e only q)

-- "Mixed, x's bar empty": the larger die l first, without repeats; nothing where no x stands above s, since then each end repeats
unfoldable pub low_once : List ℤ → ℕ → ℕ → List (List ℤ)
unfolding after unless_omitted
low_once b l s = cond (clear_from b (s + 1)) [] (up 24 (λ p. after b l (λ c. up (p - 1) (unless_omitted b l s p c)) p))

-- "One on the bar": enter with the smaller die s, without repeats
unfoldable pub enter_once : List ℤ → ℕ → ℕ → List (List ℤ)
unfolding after unless_omitted
enter_once b s l = after b s (λ c. up 25 (unless_omitted b s l 25 c)) 25
