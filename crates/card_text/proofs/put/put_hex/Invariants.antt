-- The loop's invariant: the first bytes are written, two digits each.
use Rattle.std.proofs.Common.{◌≡◌, ◌++◌, ◌+◌, ◌*◌, take}
use Rattle.arrayvec.specs.ArrayVec.{array_vec_len}
use Rattle.card_text.specs.Text.{hex}
use Rattle.card_text.proofs.put.put_hex.Given as goal

abbrev pub invariant-loop-byte : goal.invariant-loop-byte
invariant-loop-byte l = (l.line.items ≡ l.initial.line.items ++ hex (take l.byte-index l.byte-items)) × (array_vec_len l.line ≡ array_vec_len l.initial.line + 2 * l.byte-index)
