-- The tests are the definition's, in their order.
use mathlib.Core.Path.{◌≡◌, sym, ap, ap₂, ◌∙◌}
use mathlib.Core.List.{List}
use Prim.Native.Nat.{ℕ}
use native.Mathlib.Omega.{arith}
use Rattle.std.proofs.Common.{Err, rules}
use Rattle.ints.specs.Bits.{bits_of, some}
use Rattle.ints.specs.Sums.{values}
use Rattle.ints.specs.declared.refusal.Refusal.TheVariants.{KeyOOver15, KeyXOver15, KeySharedPoint, KeyBitAfterEnd}
use Rattle.ints.proofs.Sums.{part-total}
use Rattle.position.specs.Board.{checkers}
use Rattle.position.specs.Answers.{board_told}
use Rattle.key.specs.Key.{o_side, x_side, meets, board_from, board_of}
use Rattle.key.proofs.Sides.{Both, both_read, few-o, over-o, over-x}
use Rattle.key.proofs.Answers.{refusal-15, refusal-16, refusal-17, refusal-18, refusal-0, board-refused, board-answered}
use Rattle.key.proofs.decode.Goals as goal
use Rattle.key.proofs.decode.Goals.{In_ok-x}

-- both sides, once x's was read
module _ (c : In_ok-x) where
  known : Both (bits_of c.args.k) c.in_ok-o.o.counts c.in_ok-x.x.counts c.in_ok-x.x.end
  known =
      both_read (bits_of c.args.k) c.in_ok-o.o.end (rw c.in_ok-o.ensures.ok_part at c.read_side.ensures)
      (rw c.in_ok-x.ensures.ok_part at c.read_side-2.ensures)

  -- what is read of the points that both sides stand on
  meeting : some (values (meets (x_side (bits_of c.args.k)) (o_side (bits_of c.args.k))) 0 26)
      ≡ some (values (meets c.in_ok-x.x.counts c.in_ok-o.o.counts) 0 26)
  meeting = sym (ap₂ (λ (x o : List ℕ). some (values (meets x o) 0 26)) known.x-is known.o_is)

pub returns-in_err-o : goal.returns-in_err-o
returns-in_err-o c =
    let l = bits_of c.args.k in
    let h = rw c.in_err-o.ensures.ok_part at c.read_side.ensures in
    let e : c.from_residual.result ≡ Err KeyOOver15 = search rules in
    ap board_told e ∙ board-refused checkers c.args.k KeyOOver15 (refusal-15 checkers l (over-o l h))

pub returns-in_err-x : goal.returns-in_err-x
returns-in_err-x c =
    let l = bits_of c.args.k in
    let o = rw c.in_ok-o.ensures.ok_part at c.read_side.ensures in
    let h = rw c.in_err-x.ensures.ok_part at c.read_side-2.ensures in
    let e : c.from_residual-in_err-x.result ≡ Err KeyXOver15 = search rules in
    ap board_told e ∙ board-refused checkers c.args.k KeyXOver15 (refusal-16 checkers l (few-o l o) (over-x l o h))

pub returns-then-shared : goal.returns-then-shared
returns-then-shared c =
    let v = known (goal.at.returns-then-shared c).In_ok-x in
    board-refused checkers c.args.k KeySharedPoint
    (refusal-17 checkers (bits_of c.args.k) v.o-most v.x-most
    (meeting (goal.at.returns-then-shared c).In_ok-x ∙ sym c.shared.ensures ∙ c.if-shared.true))

pub returns-then-set_from : goal.returns-then-set_from
returns-then-set_from c =
    let v = known (goal.at.returns-then-set_from c).In_ok-x in
    board-refused checkers c.args.k KeyBitAfterEnd
    (refusal-18 checkers (bits_of c.args.k) v.o-most v.x-most
    (meeting (goal.at.returns-then-set_from c).In_ok-x ∙ sym c.shared.ensures ∙ c.if-shared.false)
    (sym (ap some v.after) ∙ sym c.set_from.ensures ∙ c.if-set_from.true))

pub board_from-requires : goal.board_from-requires
board_from-requires c p =
    let l = bits_of c.args.k in
    let v = known (goal.at.board_from-requires c).In_ok-x in
    (rw v.x-is (omega (arith, part-total (x_side l) p, v.x-most)), rw v.o_is (omega (arith, part-total (o_side l) p, v.o-most)))

pub returns : goal.returns
unfolding board_of
returns c =
    let v = known (goal.at.returns c).In_ok-x in
    board-answered checkers c.args.k
    (refusal-0 checkers (bits_of c.args.k) v.o-most v.x-most (meeting (goal.at.returns c).In_ok-x ∙ sym c.shared.ensures ∙ c.if-shared.false)
    (sym (ap some v.after) ∙ sym c.set_from.ensures ∙ c.if-set_from.false))
    c.board_from.result (c.board_from.ensures ∙ ap₂ board_from v.x-is v.o_is)
