-- Lists of bytes: a part of one is one, and so are two in a row. Assumes nothing.
use mathlib.Core.List.{List, [], ◌∷◌, ◌++◌}
use mathlib.Core.Logic.{◌⊎◌, inl, inr}
use Prim.Native.Nat.{ℕ, zero, suc, ◌+◌, ◌≤◌, ◌<◌}
use native.Mathlib.Omega.{arith}
use lib.ListN.{get_or, take, drop, length-take, get_or-eq_default}
use lib.Seq.{get_or-take, get_or-drop}
use Rattle.ints.specs.Bits.{Bytes}
use Rattle.ints.proofs.Tests.{lt-or-le}

pub bytes_drop : (k : ℕ) (l : List ℕ) → Bytes l → Bytes (drop k l)
bytes_drop k l b i = rw (get_or-drop k l i 0) (b (k + i))

pub bytes_take : (k : ℕ) (l : List ℕ) → Bytes l → Bytes (take k l)
bytes_take k l b i = go (lt-or-le i k)
  where
    go : (i < k) ⊎ (k ≤ i) → get_or (take k l) i 0 < 256
    go (inl h) = rw (get_or-take k l i 0 h) (b i)
    go (inr h) = rw (get_or-eq_default (take k l) 0 {n = i} (omega (arith, length-take k l))) (omega arith)

pub bytes-append : (l r : List ℕ) → Bytes l → Bytes r → Bytes (l ++ r)
bytes-append [] r b c i = c i
bytes-append (x ∷ l) r b c zero = b 0
bytes-append (x ∷ l) r b c (suc i) = bytes-append l r (λ j. b (suc j)) c i
