-- The steps behind an end (document 01, "Recovery"): the Rust's choice of them, and what they must be whatever the choice.
use Rattle.std.specs.Prelude.{◌≡◌, Bool, true, cond, ◌&&◌, Option, None, Some, List, [], ◌∷◌, ℕ, zero, suc, ◌-◌, min, max, ltb, eqb, ℤ}
use Rattle.position.specs.Board.{xs}
use Rattle.position.specs.Step.{can_step, stepped}
use Rattle.position.specs.Phase.{highest}
use Rattle.rules.specs.Plays.{AnyDie}
use Rattle.rules.specs.Ends.{same_board}
use Rattle.bg_move.specs.declared.Step.{Step}

-- ---- what they must be

-- "Recovery": a step from p by d is told as a from and a to, 0 where the checker is off
abbrev pub told : ℕ → ℕ → Step
told p d = record { from = p; to = p - d }

-- "Recovery": the steps are legal one after another, each by a die of its own, and lead from b to e
abbrev pub Made : List Step → List ℕ → List ℤ → List ℤ → Type 0
Made [] ds b e = e ≡ b
Made (t ∷ ts) ds b e = AnyDie ds (λ d rest. (t ≡ told t.from d) × (can_step b t.from d ≡ true) × Made ts rest (stepped b t.from d) e)

-- ---- the Rust's choice

-- the highest point below n that lost a checker of x from b to e, 0 where none did
unfoldable pub lost : List ℤ → List ℤ → ℕ → ℕ
lost b e n = highest (λ i. xs b i - xs e i) n

-- the point that lost the second one, where f lost the first: f too, or the highest below it; 0 where none did
unfoldable pub lost_next : List ℤ → List ℤ → ℕ → ℕ
lost_next b e f = cond (ltb 1 (xs b f - xs e f)) f (lost b e f)

-- a point as the code tells it: 0 is none
abbrev pub point : ℕ → Option ℕ
point zero = None
point (suc p) = Some (suc p)

-- whether a legal step from p by d leads to e
unfoldable pub leads : List ℤ → ℕ → ℕ → List ℤ → Bool
leads b p d e = can_step b p d && same_board (stepped b p d) e

-- whether a legal step from p by d and then one from q by c lead to e
unfoldable pub leads_both : List ℤ → ℕ → ℕ → ℕ → ℕ → List ℤ → Bool
leads_both b p d q c e = can_step b p d && leads (stepped b p d) q c e

-- the steps from p by d and from q by c
abbrev pub two : ℕ → ℕ → ℕ → ℕ → List Step
two p d q c = told p d ∷ told q c ∷ []

-- one checker, from f: both dice, the smaller first if that leads to e, else the larger first; else one die, the smaller if that does
unfoldable pub one_checker : List ℤ → List ℤ → ℕ → ℕ → ℕ → List Step
one_checker b e f s l =
    cond (leads_both b f s (f - s) l e) (two f s (f - s) l)
    (cond (leads_both b f l (f - l) s e) (two f l (f - l) s)
    (cond (leads b f s e) (told f s ∷ [])
    (cond (leads b f l e) (told f l ∷ []) [])))

-- two checkers, from p and q: the first of the four combinations that leads to e
unfoldable pub two_checkers : List ℤ → List ℤ → ℕ → ℕ → ℕ → ℕ → List Step
two_checkers b e p q s l =
    cond (leads_both b p l q s e) (two p l q s)
    (cond (leads_both b p s q l e) (two p s q l)
    (cond (leads_both b q l p s e) (two q l p s)
    (cond (leads_both b q s p l e) (two q s p l) [])))

-- a mixed roll, s the smaller and l the larger die: no checker, one or two, by the points that lost one
unfoldable pub mixed_steps : List ℤ → List ℤ → ℕ → ℕ → List Step
mixed_steps b e s l =
    let f = lost b e 26 in
    cond (eqb f 0) [] (cond (eqb (lost_next b e f) 0) (one_checker b e f s l) (two_checkers b e f (lost_next b e f) s l))

-- a double: at most k steps, each from the highest point that has still to lose a checker
unfoldable pub double_steps : ℕ → ℕ → List ℤ → List ℤ → List Step
double_steps d zero b e = []
double_steps d (suc k) b e =
    let p = lost b e 26 in
    cond (eqb p 0) [] (told p d ∷ double_steps d k (stepped b p d) e)

-- "Recovery": the steps from b to the end e, which is told from the mover's side
unfoldable pub steps_of : List ℤ → ℕ → ℕ → List ℤ → List Step
steps_of b d1 d2 e = cond (eqb d1 d2) (double_steps d1 4 b e) (mixed_steps b e (min d1 d2) (max d1 d2))
