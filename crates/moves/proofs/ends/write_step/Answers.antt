-- After each store the bytes are those of the board with one more of the step's changes.
use mathlib.Core.Path.{refl, ap, ◌∙◌}
use mathlib.Core.List.{List}
use Prim.Native.Nat.{ℕ, suc, ◌-◌, ◌<◌}
use native.Mathlib.Omega.{arith}
use lib.IntN.{ℤ, pos, suc_ℤ, pred_ℤ}
use lib.Seq.{sets}
use lib.Signed.{mag}
use mir.Syntax.{w8}
use Rattle.ints.specs.Signed.{neg_part}
use Rattle.ints.specs.Twos.{twos}
use Rattle.ints.proofs.Signed.{turned-pred-held, turned-suc-held, lone-yes, lone-no}
use Rattle.position.specs.Board.{entry}
use Rattle.position.specs.Step.{lifted}
use Rattle.position.proofs.StepCode.{stepped-off, stepped-hit, stepped-more}
use Rattle.moves.proofs.Images.{Holds, holds-is, holds-set}
use Rattle.moves.proofs.ends.write_step.Goals as goal
use Rattle.moves.proofs.ends.write_step.Goals.{After-set_entry}

-- after the first store
module _ (c : After-set_entry) where
  abbrev b : List ℤ
  b = c.args.b.now

  abbrev p : ℕ
  p = c.args.p

  abbrev to : ℕ
  to = c.args.p - c.args.die

  -- an entry can be turned and changed by one
  small : (i : ℕ) → suc (suc (mag (entry b i))) < 128
  small i = omega (arith, c.requires.small i)

  -- the board without the checker that moves
  left : Holds c.args.out.now c.args.at c.set_entry.new.out (lifted b p)
  unfolding lifted
  left =
      let o = c.args.out.now in
      let at = c.args.at in
      holds-set p (pred_ℤ (entry b p)) _ (omega arith) (ap twos (turned-pred-held w8 (entry b p) (small p))) c.set_entry.ensures
      (record { size = c.told-b; is = c.copy.ensures ∙ ap (sets o at) c.requires.b_len.2 })

pub returns-then-b-to : goal.returns-then-b-to
returns-then-b-to c =
    let s = (goal.at.returns-then-b-to c).After-set_entry in
    let z = entry (b s) (to s) in
    let lone = lone-yes w8 z (omega (arith, small s (to s))) (omega arith) c.if-b-to.true in
    holds-is _ (stepped-hit (b s) (p s) s.args.die (omega arith) (omega arith) (ap neg_part lone))
    (holds-set 0 (pred_ℤ (entry (b s) 0)) _ (omega arith) (ap twos (turned-pred-held w8 (entry (b s) 0) (small s 0))) c.set_entry-then-b-to-2.ensures
    (holds-set (to s) (pos 1) _ (omega arith) refl c.set_entry-then-b-to.ensures (left s)))

pub returns-else-b-to : goal.returns-else-b-to
returns-else-b-to c =
    let s = (goal.at.returns-else-b-to c).After-set_entry in
    let z = entry (b s) (to s) in
    holds-is _
    (stepped-more (b s) (p s) s.args.die (omega arith) (omega arith) (λ o. lone-no w8 z (omega (arith, small s (to s))) c.if-b-to.false o))
    (holds-set (to s) (suc_ℤ z) _ (omega arith) (ap twos (turned-suc-held w8 z (small s (to s)))) c.set_entry-else-b-to.ensures (left s))

pub returns-else-die-p : goal.returns-else-die-p
returns-else-die-p c =
    let s = (goal.at.returns-else-die-p c).After-set_entry in
    holds-is _ (stepped-off (b s) (p s) s.args.die c.if-die-p.false) (left s)
