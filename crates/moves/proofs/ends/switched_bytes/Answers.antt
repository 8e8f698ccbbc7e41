use native.Mathlib.Omega.{arith}
use Rattle.moves.proofs.Images.{image-is}
use Rattle.moves.proofs.ends.switched_bytes.Goals as goal

pub returns : goal.returns
returns c =
    let v = c.loop-i.invariant in
    image-is c.args.b.now c.loop-i.s v.size (λ k l. v.at k l (omega arith))
