use Rattle.std.proofs.Common.{rules, ◌≡◌, ap, ◌∙◌, ℕ, ◌<◌, ◌≤◌, List, ℤ, pos, take, get_or}
use Rattle.std.proofs.lemmas.List.{get_or-take}
use native.Mathlib.Omega.{arith}
use mir.Syntax.{w8}
use Rattle.ints.specs.Signed.{pos_part, neg_part}
use Rattle.ints.specs.Sums.{sum_to}
use Rattle.ints.proofs.Signed.{held-is, pos_part-lt, neg_part-le}
use Rattle.ints.proofs.Sums.{sum_more}
use Rattle.position.specs.Board.{entry, xs, os}
use Rattle.position.proofs.checkers_below.Goals as goal
use Rattle.position.proofs.checkers_below.Goals.{After-neg_part, After-pos_part}

-- the entry that a turn reads
module _ (n : ℕ) (b : List ℤ) (i : ℕ) where
  abbrev read : ℤ
  read = get_or (take n b) i (pos 0)

  is : i < n → read ≡ entry b i
  is h = get_or-take n b i (pos 0) h

-- what the calls add: the entry's parts, each at most 128
module _ (c : After-pos_part) where
  abbrev x : ℤ
  x = read c.args.n c.args.b.now c.loop-e.e-index

  more-x : c.pos_part.result ≡ xs c.args.b.now c.loop-e.e-index
  more-x =
      rw (held-is w8 x (search rules)) at c.pos_part.ensures
      ∙ ap pos_part (is c.args.n c.args.b.now c.loop-e.e-index (search rules))

  small-x : c.pos_part.result ≤ 128
  small-x = omega (arith, (rw (held-is w8 x (search rules)) at c.pos_part.ensures), pos_part-lt x 128 (search rules))

module _ (c : After-neg_part) where
  abbrev o : ℤ
  o = read c.args.n c.args.b.now c.loop-e.e-index

  more-o : c.neg_part.result ≡ os c.args.b.now c.loop-e.e-index
  more-o =
      rw (held-is w8 o (search rules)) at c.neg_part.ensures
      ∙ ap neg_part (is c.args.n c.args.b.now c.loop-e.e-index (search rules))

  small-o : c.neg_part.result ≤ 128
  small-o = omega (arith, (rw (held-is w8 o (search rules)) at c.neg_part.ensures), neg_part-le o 128 (search rules))

pub loop-e-init : goal.loop-e-init
unfolding sum_to
loop-e-init c = (omega arith, omega arith, omega arith)

pub loop-e-preserved : goal.loop-e-preserved
loop-e-preserved c =
    let b = c.args.b.now in
    let i = c.loop-e.e-index in
    let mx = sum_more (xs b) i in
    let mo = sum_more (os b) i in
    let at = goal.at.loop-e-preserved c in (
      omega (arith, more-x at.After-pos_part, small-x at.After-pos_part),
      omega (arith, more-o at.After-neg_part, small-o at.After-neg_part),
      omega (arith, more-x at.After-pos_part, more-o at.After-neg_part),
    )
