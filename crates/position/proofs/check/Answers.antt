-- The tests are the definition's, in their order, and the checkers are those that were counted.
use native.Mathlib.Omega.{arith}
use borrow.Author.Rules.{rules}
use mir.Syntax.{w8}
use Rattle.ints.proofs.Signed.{above-yes, above-no, below-yes, below-no}
use Rattle.position.specs.Board.{checkers, entry}
use Rattle.position.proofs.Boards.{judged-1, judged-2, judged-3, judged-4, judged-0}
use Rattle.position.proofs.check.Goals as goal

pub returns-then-all-gt-NUM_OF_CHECKERS : goal.returns-then-all-gt-NUM_OF_CHECKERS
returns-then-all-gt-NUM_OF_CHECKERS c = record { judged = judged-1 checkers _ (omega arith); x = search rules; o = search rules }

pub returns-then-all-gt-NUM_OF_CHECKERS-2 : goal.returns-then-all-gt-NUM_OF_CHECKERS-2
returns-then-all-gt-NUM_OF_CHECKERS-2 c = record { judged = judged-2 checkers _ (omega arith) (omega arith); x = search rules; o = search rules }

pub returns-then-b-lt0 : goal.returns-then-b-lt0
returns-then-b-lt0 c =
    let b = c.args.b in
    record {
      judged = judged-3 checkers b (omega arith) (omega arith) (below-yes w8 (entry b 25) (search rules) c.if-b-lt0.true);
      x = search rules;
      o = search rules;
    }

pub returns-then-b-gt0 : goal.returns-then-b-gt0
returns-then-b-gt0 c =
    let b = c.args.b in
    let low = below-no w8 (entry b 25) (search rules) c.if-b-lt0.false in
    record {
      judged = judged-4 checkers b (omega arith) (omega arith) low (above-yes w8 (entry b 0) (search rules) c.if-b-gt0.true);
      x = search rules;
      o = search rules;
    }

pub returns : goal.returns
returns c =
    let s = c in
    let b = s.args.b in
    let low = below-no w8 (entry b 25) (search rules) c.if-b-lt0.false in
    let top = above-no w8 (entry b 0) (search rules) c.if-b-gt0.false in
    record {
      judged = judged-0 checkers b (omega arith) (omega arith) low top s.well_formed.0.1.0.1;
      x = search rules;
      o = search rules;
    }
