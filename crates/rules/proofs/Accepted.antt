-- A play keeps a board accepted and the number of o's checkers, so each end of an accepted board is accepted and has as many of them. Stated over the number n of checkers a side.
-- Assumes nothing.
use mathlib.Core.Path.{◌≡◌, ◌∙◌}
use mathlib.Core.List.{List}
use Prim.Native.Nat.{ℕ, zero, suc}
use lib.IntN.{ℤ}
use Rattle.position.specs.Board.{Accepted, o_all}
use Rattle.position.specs.Step.{stepped}
use Rattle.position.proofs.Steps.{accepted-good, test-legal, step-accepted, step-o_all}
use Rattle.rules.specs.Plays.{dice_rolled, Play, LegalEnd}
use Rattle.rules.proofs.Plays.{play-first}

pub play-accepted : (n k : ℕ) (ds : List ℕ) (b e : List ℤ) → Accepted n b → Play k ds b e → Accepted n e
play-accepted n zero ds b e a q = rw q a
play-accepted n (suc k) ds b e a y =
    let r = play-first k ds b e y in
    let p = r.3.0 in
    let d = r.0 in
    play-accepted n k r.1 (stepped b p d) e (step-accepted n b p d a (test-legal b p d r.3.1)) r.3.2

pub end-accepted : (n : ℕ) (b : List ℤ) (d1 d2 : ℕ) (e : List ℤ) → Accepted n b → LegalEnd b d1 d2 e → Accepted n e
end-accepted n b d1 d2 e a l = play-accepted n l.used (dice_rolled d1 d2) b e a l.play

pub play-o_all : (n k : ℕ) (ds : List ℕ) (b e : List ℤ) → Accepted n b → Play k ds b e → o_all e ≡ o_all b
play-o_all n zero ds b e a q = rw q
play-o_all n (suc k) ds b e a y =
    let r = play-first k ds b e y in
    let p = r.3.0 in
    let d = r.0 in
    let l = test-legal b p d r.3.1 in
    play-o_all n k r.1 (stepped b p d) e (step-accepted n b p d a l) r.3.2 ∙ step-o_all b p d (accepted-good a) l

pub end-o_all : (n : ℕ) (b : List ℤ) (d1 d2 : ℕ) (e : List ℤ) → Accepted n b → LegalEnd b d1 d2 e → o_all e ≡ o_all b
end-o_all n b d1 d2 e a l = play-o_all n l.used (dice_rolled d1 d2) b e a l.play
