-- A range that was copied over is what stands before it, the bytes, and what stands after it.
use Rattle.std.proofs.Common.{◌≡◌, sym, ◌+◌, ◌-◌, length, take, drop, append_assoc, drop-drop, arith}
use Rattle.std.proofs.lemmas.List.Edits.{sets-eq}
use Rattle.card.proofs.writer.put.Goals as goal

pub returns : goal.returns
returns c =
    let a = c.args in
    let n : a.at + length a.bytes.now - a.at ≡ length a.bytes.now = omega arith in
    rw (sets-eq a.bytes.now a.buffer.now a.at c.requires, c.copy_from_slice.ensures.after, n, drop-drop (length a.bytes.now) a.at a.buffer.now)
    (sym (append_assoc (take a.at a.buffer.now) a.bytes.now (drop (a.at + length a.bytes.now) a.buffer.now)))
