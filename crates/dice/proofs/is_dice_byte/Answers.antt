-- Its tests pick the 21 bytes, as one test over all bytes shows.
use Prim.Native.Nat.{◌/◌, ◌%◌}
use native.Mathlib.Omega.{arith}
use borrow.Author.Rules.{rules}
use borrow.Author.Tests.{le-leb, lt-leb}
use Rattle.dice.proofs.Bytes.{in-range}
use Rattle.dice.proofs.is_dice_byte.Goals as goal

pub returns-then-small-big : goal.returns-then-small-big
returns-then-small-big c =
    let b = c.args.byte in
    rw (in-range b (search rules), le-leb 1 (b % 16) (omega arith), le-leb (b % 16) (b / 16) (omega arith))

pub returns-else-small-big : goal.returns-else-small-big
returns-else-small-big c =
    let b = c.args.byte in
    rw (in-range b (search rules), le-leb 1 (b % 16) (omega arith), lt-leb (b % 16) (b / 16) (omega arith))

pub returns-else-small-ge1 : goal.returns-else-small-ge1
returns-else-small-ge1 c =
    let b = c.args.byte in
    rw (in-range b (search rules), lt-leb 1 (b % 16) (omega arith))
