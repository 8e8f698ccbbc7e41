-- The list of ends with sides switched, as the board's controller hands it out: the legal ends of an accepted board, each once, all accepted.
-- Assumes nothing.
use mathlib.Core.Path.{◌≡◌, sym, subst}
use mathlib.Core.Logic.{◌↔◌}
use mathlib.Core.List.{List}
use Prim.Native.Nat.{ℕ}
use lib.IntN.{ℤ}
use lib.ListN.{length, length-map}
use Rattle.position.specs.Board.{Accepted, switched}
use Rattle.position.proofs.SideSwitch.{switched-accepted, switched-same}
use Rattle.rules.specs.Plays.{LegalEnd}
use Rattle.rules.specs.Ends.{ends_of, switched_ends_of, In, Once}
use Rattle.dice.specs.Dice.{Die}
use Rattle.rules.proofs.Lists.{in_map, map-in, once-map}
use Rattle.rules.proofs.Exact.{accepted-exact, accepted-once}
use Rattle.rules.proofs.Accepted.{end-accepted}

pub switched-length : (b : List ℤ) (d1 d2 : ℕ) → length (switched_ends_of b d1 d2) ≡ length (ends_of b d1 d2)
unfolding switched_ends_of
switched-length b d1 d2 = length-map (ends_of b d1 d2) switched

module _ (n : ℕ) (b : List ℤ) (d1 d2 : ℕ) (a : Accepted n b) (dd1 : Die d1) (dd2 : Die d2) where
  pub switched-exact : (f : List ℤ) → In f (switched_ends_of b d1 d2) ↔ (e : List ℤ) × LegalEnd b d1 d2 e × (f ≡ switched e)
  unfolding switched_ends_of
  switched-exact f = (
    (λ m. let r = in_map switched f (ends_of b d1 d2) m in (r.0, (accepted-exact a d1 d2 dd1 dd2 r.0).0 r.1, r.2)),
    λ r.
        let m = map-in switched r.0 (ends_of b d1 d2) ((accepted-exact a d1 d2 dd1 dd2 r.0).1 r.1) in
        subst (λ (x : List ℤ). In x (switched_ends_of b d1 d2)) (sym r.2) m,
  )

  pub switched-end-accepted : (f : List ℤ) → In f (switched_ends_of b d1 d2) → Accepted n f
  switched-end-accepted f m =
      let r = (switched-exact f).0 m in
      rw r.2 (switched-accepted n r.0 (end-accepted n b d1 d2 r.0 a r.1))

  pub once-switched : Once (switched_ends_of b d1 d2)
  unfolding switched_ends_of
  once-switched = once-map switched (ends_of b d1 d2) (λ e f k m q. switched-same e f (size e k) (size f m) q) (accepted-once a d1 d2 dd1 dd2)
    where
      size : (e : List ℤ) → In e (ends_of b d1 d2) → length e ≡ 26
      size e m = (end-accepted n b d1 d2 e a ((accepted-exact a d1 d2 dd1 dd2 e).0 m)).size
