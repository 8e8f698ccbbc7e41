-- Where the mask has the point, that digit is taken away, else 0.
use borrow.Author.Rules.{rules}
use Prim.Native.Nat.{◌<◌}
use native.Mathlib.Omega.{arith}
use Rattle.ints.proofs.Digits.{shl_one}
use Rattle.moves.proofs.Seconds.{bit-without}
use Rattle.moves.proofs.mixed_moves.without.Goals as goal

pub returns-in-Some : goal.returns-in-Some
returns-in-Some c =
    let q = c.in-Some.p in
    let small : q < 32 = search rules in
    rw c.in-Some.is (λ i. rw (shl_one 32 q small) (bit-without c.args.m q i), omega arith)
