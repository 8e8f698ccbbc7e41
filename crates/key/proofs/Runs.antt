-- Laws of runs: what was written is read, and what is read was written. Assumes nothing.
use mathlib.Core.Path.{◌≡◌, refl, sym, ap, ap₂, ◌∙◌}
use mathlib.Core.Bool.{Bool, true, false, cond, ◌||◌}
use native.Mathlib.Numerals.{add-one}
use mathlib.Core.List.{List, [], ◌∷◌, ◌++◌, append_assoc}
use Prim.Native.Nat.{ℕ, zero, suc, ◌+◌, ◌<◌, ◌≤◌, min}
use native.Mathlib.Omega.{arith}
use lib.ListN.{length, get_or, drop, replicate, length-append, length-replicate}
use Rattle.ints.specs.Bits.{merged}
use Rattle.ints.specs.Sums.{total}
use Rattle.ints.proofs.Fields.{merged-append}
use Rattle.ints.specs.Bits.{some}
use Rattle.ints.proofs.Bits.{some-yes, some-no, some_end}
use Rattle.std.specs.List.{prefix_len, range_with_len, list_any}
use Rattle.key.specs.Key.{runs, lead, rest, counts_of, rest_of}

-- ---- what was written is read

lead-run : (n : ℕ) (l : List Bool) → lead (replicate n true ++ (false ∷ l)) ≡ n
unfolding lead
lead-run zero l = refl
lead-run (suc n) l = ap suc (lead-run n l)

rest-run : (n : ℕ) (l : List Bool) → rest (replicate n true ++ (false ∷ l)) ≡ l
unfolding rest
rest-run zero l = refl
rest-run (suc n) l = rest-run n l

-- the first run, and what stands after it
first_run : (n : ℕ) (ns : List ℕ) (l : List Bool) → runs (n ∷ ns) ++ l ≡ replicate n true ++ (false ∷ (runs ns ++ l))
unfolding runs
first_run n ns l = append_assoc (replicate n true) (false ∷ runs ns) l

pub counts-runs : (ns : List ℕ) (l : List Bool) → counts_of (length ns) (runs ns ++ l) ≡ ns
unfolding counts_of
counts-runs [] l = refl
counts-runs (n ∷ ns) l =
    ap (counts_of (suc (length ns))) (first_run n ns l)
    ∙ ap₂ ◌∷◌ (lead-run n (runs ns ++ l)) (ap (counts_of (length ns)) (rest-run n (runs ns ++ l)) ∙ counts-runs ns l)

pub rest-runs : (ns : List ℕ) (l : List Bool) → rest_of (length ns) (runs ns ++ l) ≡ l
unfolding rest_of runs
rest-runs [] l = refl
rest-runs (n ∷ ns) l =
    ap (rest_of (suc (length ns))) (first_run n ns l) ∙ ap (rest_of (length ns)) (rest-run n (runs ns ++ l)) ∙ rest-runs ns l

-- ---- what is read was written, where an end bit is there

run-lead : (l : List Bool) → lead l < length l → replicate (lead l) true ++ (false ∷ rest l) ≡ l
unfolding lead rest
run-lead [] h = absurd (omega arith)
run-lead (false ∷ l) h = refl
run-lead (true ∷ l) h = ap (λ (k : List Bool). true ∷ k) (run-lead l (omega arith))

length_rest : (l : List Bool) → lead l < length l → length (rest l) + (lead l + 1) ≡ length l
unfolding lead rest
length_rest [] h = absurd (omega arith)
length_rest (false ∷ l) h = omega arith
length_rest (true ∷ l) h = omega (arith, length_rest l (omega arith))

-- the bits after a run are those from its end on
pub rest-drop : (l : List Bool) → lead l < length l → rest l ≡ drop (lead l + 1) l
unfolding lead rest
rest-drop [] h = absurd (omega arith)
rest-drop (false ∷ l) h = refl
rest-drop (true ∷ l) h =
    let e : suc (lead l) + 1 ≡ suc (lead l + 1) = omega arith in
    rw e (rest-drop l (omega arith))

pub runs-counts : (n : ℕ) (l : List Bool) → n + total (counts_of n l) ≤ length l → runs (counts_of n l) ++ rest_of n l ≡ l
unfolding runs counts_of rest_of total
runs-counts zero l h = refl
runs-counts (suc n) l h =
    let g : lead l < length l = omega arith in
    let r = length_rest l g in
    first_run (lead l) (counts_of n (rest l)) (rest_of n (rest l))
    ∙ ap (λ (k : List Bool). replicate (lead l) true ++ (false ∷ k)) (runs-counts n (rest l) (omega arith))
    ∙ run-lead l g

-- ---- lengths, and runs one after another

pub length-counts : (n : ℕ) (l : List Bool) → length (counts_of n l) ≡ n
unfolding counts_of
length-counts zero l = refl
length-counts (suc n) l = ap suc (length-counts n (rest l))

pub length_runs : (ns : List ℕ) → length (runs ns) ≡ total ns + length ns
unfolding runs total
length_runs [] = refl
length_runs (n ∷ ns) =
    length-append (replicate n true) (false ∷ runs ns) ∙ omega (arith, length-replicate n true, length_runs ns)

pub runs_append : (ns ms : List ℕ) → runs (ns ++ ms) ≡ runs ns ++ runs ms
unfolding runs
runs_append [] ms = refl
runs_append (n ∷ ns) ms =
    ap (λ (k : List Bool). replicate n true ++ (false ∷ k)) (runs_append ns ms) ∙ sym (append_assoc (replicate n true) (false ∷ runs ns) (runs ms))

-- the first run put, and then the others
pub put-run : (l : List Bool) (i n : ℕ) (ns : List ℕ) → merged l i (runs (n ∷ ns)) ≡ merged (merged l i (replicate n true)) (i + (n + 1)) (runs ns)
unfolding runs merged
put-run l i n ns =
    let e : suc (i + length (replicate n true)) ≡ i + (n + 1) = omega (arith, length-replicate n true) in
    merged-append l i (replicate n true) (false ∷ runs ns) ∙ ap (λ (k : ℕ). merged (merged l i (replicate n true)) k (runs ns)) e

-- ---- reading bit by bit

pub lead-no : (l : List Bool) (j : ℕ) → get_or l j false ≡ false → lead (drop j l) ≡ 0
unfolding lead
lead-no [] zero e = refl
lead-no [] (suc j) e = refl
lead-no (false ∷ l) zero e = refl
lead-no (true ∷ l) zero e = cc
lead-no (b ∷ l) (suc j) e = lead-no l j e

pub lead-yes : (l : List Bool) (j : ℕ) → get_or l j false ≡ true → lead (drop j l) ≡ suc (lead (drop (suc j) l))
unfolding lead
lead-yes [] zero e = cc
lead-yes [] (suc j) e = cc
lead-yes (false ∷ l) zero e = cc
lead-yes (true ∷ l) zero e = refl
lead-yes (b ∷ l) (suc j) e = lead-yes l j e

-- the first of n bits that are tested in turn and fail end the count
pub lead-tested : (l : List Bool) (from n : ℕ) → prefix_len (λ k. get_or l k false) (range_with_len from n) ≡ min n (lead (drop from l))
lead-tested l from zero = omega arith
lead-tested l from (suc n) = rw (add-one from) (go (get_or l from false) refl (lead-tested l (suc from) n))
  where
    go : (t : Bool) → get_or l from false ≡ t → prefix_len (λ k. get_or l k false) (range_with_len (suc from) n) ≡ min n (lead (drop (suc from) l))
        → cond t (1 + prefix_len (λ k. get_or l k false) (range_with_len (suc from) n)) 0 ≡ min (suc n) (lead (drop from l))
    go true e r = omega (arith, lead-yes l from e)
    go false e r = omega (arith, lead-no l from e)

-- a bit set among the n from `from` on, which are the last
pub some-tested : (l : List Bool) (from n : ℕ) → length l ≤ from + n → list_any (λ k. get_or l k false) (range_with_len from n) ≡ some (drop from l)
some-tested l from zero h = sym (some_end l from (omega arith))
some-tested l from (suc n) h = rw (add-one from) (go (get_or l from false) refl (some-tested l (suc from) n (omega arith)))
  where
    go : (t : Bool) → get_or l from false ≡ t → list_any (λ k. get_or l k false) (range_with_len (suc from) n) ≡ some (drop (suc from) l)
        → (t || list_any (λ k. get_or l k false) (range_with_len (suc from) n)) ≡ some (drop from l)
    go true e r = sym (some-yes l from e)
    go false e r = r ∙ sym (some-no l from e)
