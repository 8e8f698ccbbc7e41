-- The list of ends in its order (document 01, "Steps and ends", "List order"), as boards from the mover's side.
use Rattle.std.specs.Prelude.{◌⊎◌, ◌≡◌, Bool, true, false, cond, ◌&&◌, List, [], ◌∷◌, ◌++◌, map, ℕ, zero, suc, ◌-◌, min, max, ltb, eqb, ℤ, pos, negsuc}
use Rattle.position.specs.Board.{xs, switched}
use Rattle.position.specs.Step.{can_step, stepped}

-- what f gives of n, of n - 1 and so on down to 1
abbrev pub down : ℕ → (ℕ → List (List ℤ)) → List (List ℤ)
down zero f = []
down (suc n) f = f (suc n) ++ down n f

-- what f gives of 1, of 2 and so on up to n
abbrev pub up : ℕ → (ℕ → List (List ℤ)) → List (List ℤ)
up zero f = []
up (suc n) f = up n f ++ f (suc n)

-- what k gives of the board after a step from p by d, nothing where that step is not legal
unfoldable pub after : List ℤ → ℕ → (List ℤ → List (List ℤ)) → ℕ → List (List ℤ)
after b d k p = cond (can_step b p d) (k (stepped b p d)) []

-- the list of one board
abbrev pub only : List ℤ → List (List ℤ)
only b = b ∷ []

-- whether two entries are equal
abbrev pub same_entry : ℤ → ℤ → Bool
same_entry (pos m) (pos n) = eqb m n
same_entry (pos m) (negsuc n) = false
same_entry (negsuc m) (pos n) = false
same_entry (negsuc m) (negsuc n) = eqb m n

-- whether two boards are equal
abbrev pub same_board : List ℤ → List ℤ → Bool
same_board [] [] = true
same_board [] (z ∷ zs) = false
same_board (y ∷ ys) [] = false
same_board (y ∷ ys) (z ∷ zs) = same_entry y z && same_board ys zs

-- whether b stands in the list
abbrev pub among : List ℤ → List (List ℤ) → Bool
among b [] = false
among b (c ∷ cs) = cond (same_board b c) true (among b cs)

-- the boards of a list that do not stand in another
abbrev pub unseen : List (List ℤ) → List (List ℤ) → List (List ℤ)
unseen seen [] = []
unseen seen (c ∷ cs) = cond (among c seen) (unseen seen cs) (c ∷ unseen seen cs)

-- "List order": the first list, then the second without repeats of the first
unfoldable pub join : List (List ℤ) → List (List ℤ) → List (List ℤ)
join ls rs = ls ++ unseen ls rs

-- the first list, or the second where the first is empty
abbrev pub or_else : List (List ℤ) → List (List ℤ) → List (List ℤ)
or_else [] cs = cs
or_else (b ∷ bs) cs = b ∷ bs

-- "Double": k steps by d, origins low to high, each next one at or below the one before, the first at most top; 25 is the bar
unfoldable pub doubles : ℕ → ℕ → ℕ → List ℤ → List (List ℤ)
unfolding after
doubles d zero top b = only b
doubles d (suc k) top b = up top (λ p. after b d (doubles d k p) p)

-- "Double": as many steps by d as can be made, at most k
unfoldable pub most : ℕ → List ℤ → ℕ → List (List ℤ)
unfolding doubles
most d b zero = only b
most d b (suc k) = let fewer = most d b k in or_else (doubles d (suc k) 25 b) fewer

-- "Mixed, x's bar empty": the smaller die s first from 24 down, then the larger die l from that point down
unfoldable pub from_top : List ℤ → ℕ → ℕ → List (List ℤ)
unfolding after
from_top b s l = down 24 (λ p. after b s (λ c. down p (after c l only)) p)

-- "Mixed, x's bar empty": the larger die l first from low to high, then the smaller die s from low to high, strictly below
unfoldable pub from_low : List ℤ → ℕ → ℕ → List (List ℤ)
unfolding after
from_low b l s = up 24 (λ p. after b l (λ c. up (p - 1) (after c s only)) p)

-- "One on the bar": enter with d, then the origins of e low to high; a second checker on the bar is the one origin of e
unfoldable pub enter : List ℤ → ℕ → ℕ → List (List ℤ)
unfolding after
enter b d e = after b d (λ c. up 25 (after c e only)) 25

-- "List order": both dice of a mixed roll, s the smaller and l the larger, without repeats
unfoldable pub both : List ℤ → ℕ → ℕ → List (List ℤ)
unfolding join from_top from_low enter
both b s l = cond (ltb 0 (xs b 25)) (join (enter b l s) (enter b s l)) (join (from_top b s l) (from_low b l s))

-- "One die": low to high
unfoldable pub single : List ℤ → ℕ → List (List ℤ)
unfolding after
single b d = up 25 (after b d only)

-- "Steps and ends": both dice, else the larger alone, else the smaller alone, else the unchanged board
unfoldable pub mixed : List ℤ → ℕ → ℕ → List (List ℤ)
unfolding both single
mixed b s l = or_else (both b s l) (or_else (single b l) (or_else (single b s) (only b)))

-- "List order": the ends of a roll, from the mover's side
unfoldable pub ends_of : List ℤ → ℕ → ℕ → List (List ℤ)
unfolding most mixed
ends_of b d1 d2 = cond (eqb d1 d2) (most d1 b 4) (mixed b (min d1 d2) (max d1 d2))

-- "Steps and ends": each end appears as a board with sides switched
unfoldable pub switched_ends_of : List ℤ → ℕ → ℕ → List (List ℤ)
unfolding ends_of
switched_ends_of b d1 d2 = map switched (ends_of b d1 d2)

-- e stands in the list
abbrev pub In : List ℤ → List (List ℤ) → Type 0
In e [] = ⊥
In e (c ∷ cs) = (e ≡ c) ⊎ In e cs

-- no board stands in the list twice
abbrev pub Once : List (List ℤ) → Type 0
Once [] = Unit {0}
Once (c ∷ cs) = (In c cs → ⊥) × Once cs
