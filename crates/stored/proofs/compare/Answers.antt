-- One more record: its bytes come after those of the records before, and its call of the test after theirs.
use Rattle.std.proofs.Common.{arith, [], ◌∷◌, ◌+◌, ◌++◌, refl, sym, ap, subst, append-nil, of_calls}
use Rattle.std.proofs.lemmas.Grind.{common_steps, flat_map-append}
use Rattle.std.proofs.lemmas.Fn.{FoldsTo-push}
use Rattle.std.specs.Io.KnownBytes.{Consumes}
use Rattle.std.proofs.KnownBytes.{Consumes-trans}
use Rattle.stored.proofs.compare.Goals as goal

pub loop-replayed-preserved : goal.loop-replayed-preserved
loop-replayed-preserved g c =
    let ones = c.loop-replayed.invariant.2.0 in
    let one = c.in-Some.one in
    let bytes = g.T.Record.bytes_of in
    let read = subst (Consumes _ _) (sym (append-nil (bytes one))) (rw c.in-Some.is at c.in_ok-one.ensures) in
    let consumed = subst (Consumes _ _) (sym (flat_map-append bytes ones (one ∷ []))) (Consumes-trans _ _ _ _ _ c.loop-replayed.invariant.2.1 read) in
    let counted = ap (λ n. c.loop-replayed.differ + n) c.from-differ.ensures in
    (search of_calls, grind (arith, common_steps), (ones ++ one ∷ [], consumed, grind (arith, common_steps, c.loop-replayed.invariant.2.2), FoldsTo-push _ _ ones _ one _ c.loop-replayed.invariant.2.3 (c.differs.result, record { shown = _; shows = refl; called = c.differs.ensures }, counted)))
