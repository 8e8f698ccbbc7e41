-- The list of ends has exactly the legal ends, each once: for every board that a step takes, so for every accepted one.
-- Assumes nothing.
use mathlib.Core.Path.{◌≡◌}
use mathlib.Core.Logic.{◌↔◌}
use mathlib.Core.List.{List}
use Prim.Native.Nat.{ℕ, min, max}
use native.Mathlib.Omega.{arith}
use native.Mathlib.Decide.{ℕ_discrete}
use lib.IntN.{ℤ}
use lib.ListN.{length}
use Rattle.position.specs.Board.{Accepted}
use Rattle.position.specs.Step.{Good}
use Rattle.position.proofs.Steps.{accepted-good}
use Rattle.rules.specs.Plays.{LegalEnd}
use Rattle.rules.specs.Ends.{ends_of, In, Once}
use Rattle.dice.specs.Dice.{Die}
use Rattle.rules.proofs.Dice.{smaller-die, larger-die, double-list, mixed-list}
use Rattle.rules.proofs.Lists.{Boards, no_longer}
use Rattle.rules.proofs.Doubles.{double-legal, double-listed, once-most}
use Rattle.rules.proofs.Mixed.{mixed-legal, mixed-listed, once-mixed}

module _ (b : List ℤ) (d1 d2 : ℕ) (g : Good b) (dd1 : Die d1) (dd2 : Die d2) where
  pub exact : (e : List ℤ) → In e (ends_of b d1 d2) ↔ LegalEnd b d1 d2 e
  exact e = elim (ℕ_discrete d1 d2) [
    | yes q ↦ rw (double-list d1 d2 b q) (double-legal b d1 d2 g dd1 q e, double-listed b d1 d2 g dd1 q e)
    | no q ↦ rw (mixed-list d1 d2 b q) (mixed-legal b d1 d2 g dd1 dd2 q e, mixed-listed b d1 d2 g dd1 dd2 q e)
  ]

  pub once : Once (ends_of b d1 d2)
  once = elim (ℕ_discrete d1 d2) [
    | yes q ↦ rw (double-list d1 d2 b q) (once-most d1 dd1 b 4 g)
    | no q ↦ rw (mixed-list d1 d2 b q) (once-mixed b (min d1 d2) (max d1 d2) g (smaller-die d1 d2 dd1 dd2) (larger-die d1 d2 dd1 dd2))
  ]

  -- so its length is the number of legal ends, however they are listed
  pub legal-count : (l : Boards) → Once l → ((e : List ℤ) → In e l ↔ LegalEnd b d1 d2 e) → length l ≡ length (ends_of b d1 d2)
  legal-count l o h =
      omega (
        arith,
        no_longer l (ends_of b d1 d2) o (λ e m. (exact e).1 ((h e).0 m)),
        no_longer (ends_of b d1 d2) l once (λ e m. (h e).1 ((exact e).0 m)),
      )

module _ {n : ℕ} {b : List ℤ} (a : Accepted n b) (d1 d2 : ℕ) (dd1 : Die d1) (dd2 : Die d2) where
  pub accepted-exact : (e : List ℤ) → In e (ends_of b d1 d2) ↔ LegalEnd b d1 d2 e
  accepted-exact = exact b d1 d2 (accepted-good a) dd1 dd2

  pub accepted-once : Once (ends_of b d1 d2)
  accepted-once = once b d1 d2 (accepted-good a) dd1 dd2
