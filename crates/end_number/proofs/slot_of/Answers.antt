-- The chunks that are looked through are the first n slots.
use mathlib.Core.Path.{◌≡◌}
use mathlib.Core.List.{List, map}
use lib.ListN.{take}
use Prim.Native.Nat.{ℕ}
use Rattle.std.proofs.Common.{rules, tests}
use Rattle.std.proofs.lemmas.Iterator.{YieldsList-from_slice, IsFirst-from_position}
use Rattle.ints.specs.Twos.{from_twos}
use Rattle.end_number.proofs.Slots.{first-held}
use Rattle.end_number.proofs.slot_of.Goals as goal

pub returns : goal.returns
returns c =
    let e = c.args.board.now in
    let chunks = c.as_chunks.result.0.now in
    first-held c.args.slots.now c.told-slots c.args.n c.requires e chunks c.as_chunks.ensures.front c.position.result
    (IsFirst-from_position _ _ c.position.result (λ (x : List ℕ). map from_twos x ≡ e) (λ (x : List ℕ). map from_twos x ≡ e → ⊥) c.position.ensures.ran
    (YieldsList-from_slice (take c.args.n chunks) c.iter.ensures.rest) (λ x q k. search (rules, tests)) (λ x q k. search (rules, tests)))
