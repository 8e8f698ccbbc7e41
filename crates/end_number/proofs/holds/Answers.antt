-- The entries are compared one by one, each with that of its byte.
use mathlib.Core.Path.{◌≡◌, refl, sym, ap, ◌∙◌}
use mathlib.Core.List.{List, map}
use native.Mathlib.Omega.{arith}
use mir.Syntax.{w8}
use mir.Val.{of_z}
use lib.IntN.{ℤ, pos}
use lib.ListN.{length, get_or, length-map}
use lib.Seq.{ext_get_or}
use Rattle.ints.specs.Twos.{from_twos}
use Rattle.moves.proofs.Entries.{get_or-from}
use Rattle.end_number.proofs.holds.Goals as goal

pub returns-then-entry_of-board : goal.returns-then-entry_of-board
returns-then-entry_of-board c =
    let l = c.args.slot.now in (
      λ t. cc,
      λ h. absurd (c.if-entry_of-board.true
          (ap (of_z w8) (c.entry_of.ensures ∙ sym (get_or-from l c.loop-i.i (omega (arith, c.told-slot))) ∙ ap (λ (x : List ℤ). get_or x c.loop-i.i (pos 0)) h))),
    )

pub returns : goal.returns
returns c =
    let l = c.args.slot.now in
    let size : length (map from_twos l) ≡ 26 = length-map l from_twos ∙ c.told-slot in (
      λ t. ext_get_or (pos 0) (map from_twos l) c.args.board.now (omega (arith, size))
          (λ k h. get_or-from l k (omega (arith, size, c.told-slot)) ∙ c.loop-i.invariant k (omega (arith, size))),
      λ h. refl,
    )
