-- Ends as bytes (document 01, "Steps and ends": lists hold 26 bytes an end, two's complement, as boards with sides switched).
use Rattle.std.specs.Prelude.{◌≡◌, List, [], ◌∷◌, ◌++◌, map, ℕ, ◌+◌, ℤ, length}
use Rattle.ints.specs.Twos.{twos}
use Rattle.ints.specs.Lent.{store, written}
use Rattle.position.specs.Board.{switched}
use Rattle.position.specs.Step.{stepped}
use Rattle.moves.specs.declared.window.Window.{Window}

-- the 26 bytes of an end, which is told from the mover's side
unfoldable pub image : List ℤ → List ℕ
image b = map twos (switched b)

-- the boards after a step by d from each of the points ps
abbrev pub steps : List ℤ → ℕ → List ℕ → List (List ℤ)
steps b d ps = map (λ p. stepped b p d) ps

-- the lists that g gives of the points, one after the other
abbrev pub over : (ℕ → List (List ℤ)) → List ℕ → List (List ℤ)
over g [] = []
over g (p ∷ ps) = g p ++ over g ps

-- the ends es were passed, the first of them having the number start: r is the number after the last, and a window that begins at
-- the end with number `from` holds those that fall in it
pub record Passed (es : List (List ℤ)) (out : List ℕ) (from start r : ℕ) (out' : List ℕ) : Type 0 where
  pub number : r ≡ start + length es
  pub lent : out' ≡ written 26 out from start (map image es)

-- the window w' is w, over the same lent memory, after the ends es were passed to it: the first of them had the number start, and r is the
-- number after the last
pub record Took (es : List (List ℤ)) (w : Window) (start r : ℕ) (w' : Window) : Type 0 where
  pub same : w'.out.ghost_name ≡ w.out.ghost_name
  pub from : w'.from ≡ w.from
  pub passed : Passed es w.out.now w.from start r w'.out.now

-- the window w' is w after the bytes e were stored in the slot of the end with number n, where it has one
pub record Stored (e : List ℕ) (w : Window) (n : ℕ) (w' : Window) : Type 0 where
  pub same : w'.out.ghost_name ≡ w.out.ghost_name
  pub from : w'.from ≡ w.from
  pub lent : w'.out.now ≡ store 26 w.out.now w.from n e
