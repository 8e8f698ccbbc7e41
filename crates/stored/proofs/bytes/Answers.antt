-- What is copied stands at the front, and the zeros after it are where the record has ended.
use Rattle.std.proofs.Common.{◌≡◌, ℕ, ◌+◌, ◌<◌, List, ◌++◌, length, take, drop, get_or, replicate, min, arith}
use Rattle.std.proofs.lemmas.Grind.{common_steps}
use Rattle.stored.proofs.bytes.Goals as goal

placed : (n there at i : ℕ) (xs rest : List ℕ) → rest ≡ drop at xs → there ≡ min n (length rest) → i < n → get_or (take there rest ++ drop there (replicate n 0)) i 0 ≡ get_or xs (at + i) 0
placed n there at i xs rest is most below = grind (arith, common_steps)

pub returns : goal.returns
returns g c = λ i below. grind (arith, common_steps, placed)
