-- Boards in document 01's words, for boards to try: the blank board, and a side's checkers put on a point.
use Rattle.std.specs.Prelude.{List, ℕ, ℤ, pos, neg_ℤ, set, replicate}

-- nobody has a checker on it
abbrev pub blank : List ℤ
blank = replicate 26 (pos 0)

-- x on p with n checkers
abbrev pub x : ℕ → ℕ → List ℤ → List ℤ
x p n b = set b p (pos n)

-- o on p with n checkers
abbrev pub o : ℕ → ℕ → List ℤ → List ℤ
o p n b = set b p (neg_ℤ (pos n))
