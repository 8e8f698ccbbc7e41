-- A mixed roll's second die, with the one origin left out whose end was passed already; one die alone; and a checker that enters.
use Rattle.std.specs.Prelude.{◌≡◌, Bool, false, cond, List, [], ℕ, ◌<◌, eqb, ℤ, Option, None, Some}
use Rattle.position.specs.Step.{can_step, stepped}
use Rattle.rules.specs.Ends.{up, after, only, or_else, single}
use Rattle.rules.specs.Omitted.{omits}

-- q is the origin w, if there is one
abbrev pub left_out : Option ℕ → ℕ → Bool
left_out None q = false
left_out (Some w) q = eqb q w

-- after a step from p by d the one origin of e whose end is omitted is w, if there is one
abbrev pub Omits : List ℤ → ℕ → ℕ → ℕ → Option ℕ → Type 0
Omits b d e p w = (q : ℕ) → 0 < q → left_out w q ≡ omits b d e p q

-- the ends of e on the board c, origins low to high up to top, but for the origin w
unfoldable pub up_but : List ℤ → ℕ → Option ℕ → ℕ → List (List ℤ)
up_but c e w top = up top (λ q. cond (left_out w q) [] (after c e only q))

-- enter with d and go on with e, but for the origin w
unfoldable pub enter_but : List ℤ → ℕ → ℕ → Option ℕ → List (List ℤ)
unfolding up_but
enter_but b d e w = after b d (λ c. up_but c e w 25) 25

-- where both dice give no end (document 01, "Steps and ends"): the larger die l alone, else the smaller die s alone, else the unchanged board
abbrev pub one_die : List ℤ → ℕ → ℕ → List (List ℤ)
one_die b s l = or_else (single b l) (or_else (single b s) (only b))

-- the board after a checker enters by d, or as it is where none can
unfoldable pub after_entering : List ℤ → ℕ → List ℤ
after_entering b d = cond (can_step b 25 d) (stepped b 25 d) b
