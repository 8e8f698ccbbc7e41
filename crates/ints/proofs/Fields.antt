-- Laws of bits put one after another into a list of bits, by `merged`. Assumes nothing.
use mathlib.Core.Path.{◌≡◌, refl, sym, ap, ◌∙◌}
use mathlib.Core.Bool.{Bool, true, false, cond}
use mathlib.Core.List.{List, [], ◌∷◌, ◌++◌, append_assoc}
use Prim.Native.Nat.{ℕ, suc, ◌+◌}
use native.Mathlib.Omega.{arith}
use lib.ListN.{length, set, replicate, length-append, length-set, replicate-append-replicate}
use lib.Seq.{set-append_seam}
use Rattle.ints.specs.Bits.{merged}

pub length_merged : (l : List Bool) (i : ℕ) (ds : List Bool) → length (merged l i ds) ≡ length l
unfolding merged
length_merged l i [] = refl
length_merged l i (d ∷ ds) = length_merged (cond d (set l i true) l) (suc i) ds ∙ one d
  where
    one : (d : Bool) → length (cond d (set l i true) l) ≡ length l
    one true = length-set l i true
    one false = refl

-- bits merged one after another
pub merged-append : (l : List Bool) (i : ℕ) (ds es : List Bool) → merged l i (ds ++ es) ≡ merged (merged l i ds) (i + length ds) es
unfolding merged
merged-append l i [] es = let e : i + 0 ≡ i = omega arith in rw e
merged-append l i (d ∷ ds) es =
    let e : suc i + length ds ≡ i + suc (length ds) = omega arith in
    merged-append (cond d (set l i true) l) (suc i) ds es ∙ ap (λ (k : ℕ). merged (merged (cond d (set l i true) l) (suc i) ds) k es) e

-- bits merged into as many 0s stand there, whatever stands around them
pub merged-between : (ds p r : List Bool) → merged (p ++ (replicate (length ds) false ++ r)) (length p) ds ≡ p ++ (ds ++ r)
unfolding merged
merged-between [] p r = refl
merged-between (d ∷ ds) p r =
    let i : suc (length p) ≡ length (p ++ (d ∷ [])) = omega (arith, length-append p (d ∷ [])) in
    ap (λ (l : List Bool). merged l (suc (length p)) ds) (one d) ∙ rw i (merged-between ds (p ++ (d ∷ [])) r ∙ append_assoc p (d ∷ []) (ds ++ r))
  where
    zeros : List Bool
    zeros = replicate (length ds) false ++ r

    one : (d : Bool) → cond d (set (p ++ false ∷ zeros) (length p) true) (p ++ false ∷ zeros) ≡ (p ++ (d ∷ [])) ++ zeros
    one true = set-append_seam p false zeros true ∙ sym (append_assoc p (true ∷ []) zeros)
    one false = sym (append_assoc p (false ∷ []) zeros)

-- the same where only 0s follow
pub merged-zeros : (ds p : List Bool) (m : ℕ) → merged (p ++ replicate (length ds + m) false) (length p) ds ≡ p ++ (ds ++ replicate m false)
merged-zeros ds p m = rw (← replicate-append-replicate (length ds) m false) (merged-between ds p (replicate m false))
