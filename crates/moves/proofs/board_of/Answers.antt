-- Each entry is that of its byte.
use mathlib.Core.Path.{◌≡◌, sym, ◌∙◌}
use mathlib.Core.List.{map}
use native.Mathlib.Omega.{arith}
use lib.IntN.{pos}
use lib.ListN.{length, length-map}
use lib.Seq.{ext_get_or}
use Rattle.ints.specs.Twos.{from_twos}
use Rattle.moves.proofs.Entries.{get_or-from}
use Rattle.moves.proofs.board_of.Goals as goal

pub returns : goal.returns
returns c =
    let l = c.args.bytes in
    let v = c.loop-i.invariant in
    let size : length l ≡ 26 = c.well_formed.0.1.0.1 in
    ext_get_or (pos 0) c.loop-i.board (map from_twos l) (v.0 ∙ sym (length-map l from_twos ∙ size))
    (λ k h. v.1 k (omega (arith, v.0)) ∙ sym (get_or-from l k (omega (arith, v.0, size))))
