-- The two sides on one board, point by point. Assumes nothing.
use mathlib.Core.Path.{◌≡◌, refl, ap, ◌∙◌}
use mathlib.Core.Bool.{Bool, ◌&&◌, ◌||◌}
use mathlib.Core.List.{List, [], ◌∷◌, map, reverse}
use Prim.Native.Nat.{ℕ, zero, suc, ◌+◌, ◌-◌, ◌<◌}
use native.Mathlib.Omega.{arith}
use denote.Param.Members.{Mut}
use lib.Dec.{ltb}
use lib.ListN.{length, get_or}
use Rattle.std.specs.Array.{IsFromFnResult, IsFromFnResultFrom}
use Rattle.std.specs.Fn.{Called}
use Rattle.std.specs.List.{list_any, zip}
use Rattle.std.proofs.lemmas.List.{length-map, get_or-map, length-reverse, get_or-reverse}
use Rattle.std.proofs.lemmas.Slice.Zip.{length-zip, get_or-zip}
use Rattle.ints.specs.Bits.{some}
use Rattle.ints.specs.Sums.{values}
use Rattle.ints.proofs.Sums.{table_is}
use Rattle.key.specs.Key.{meets}

-- n calls of a closure that stays as it was, at the numbers from i on, made these elements
made-at : {F B : Type 0} (g : Mut F (ℕ × Unit {0}) B) (f : F) (t : ℕ → B) (l : List B) (d : B) (m i n : ℕ)
    → ((j : ℕ) (y : B) (q : F) → j < m → Called g f (j, tt) y q → (q ≡ f) × (y ≡ t j)) → i + n ≡ m → IsFromFnResultFrom g f l i n
    → (k j : ℕ) → k < n → i + k ≡ j → get_or l j d ≡ t j
made-at g f t l d m i zero call w r k j h e = absurd (omega arith)
made-at g f t l d m i (suc n) call w r zero j h e = let s : j ≡ i = omega arith in rw s (r.2.1 d ∙ (call i r.1 r.0 (omega arith) r.3).1)
made-at g f t l d m i (suc n) call w r (suc k) j h e =
    made-at g f t l d m (i + 1) n call (omega arith) (rw (call i r.1 r.0 (omega arith) r.3).0 at r.4) k j (omega arith) (omega arith)

-- the array that n calls of it make is a table
pub table_made : {F B : Type 0} (g : Mut F (ℕ × Unit {0}) B) (f : F) (t : ℕ → B) (l : List B) (d : B) (n : ℕ)
    → ((j : ℕ) (y : B) (q : F) → j < n → Called g f (j, tt) y q → (q ≡ f) × (y ≡ t j)) → IsFromFnResult g f l n → l ≡ values t 0 n
table_made g f t l d n call r = table_is t n l d r.long (λ k h. made-at g f t l d n 0 n call (omega arith) r.each k k h (omega arith))

-- a test that one of the pairs passes
any-some : {X : Type 0} (t : X → Bool) (l : List X) → list_any t l ≡ some (map t l)
unfolding some
any-some t [] = refl
any-some t (x ∷ l) = ap (λ (b : Bool). t x || b) (any-some t l)

pub meet-tested : (x o : List ℕ) → length x ≡ 26 → length o ≡ 26
    → list_any (λ p. ltb 0 p.0 && ltb 0 p.1) (zip x (reverse o)) ≡ some (values (meets x o) 0 26)
meet-tested x o a b =
    let t = λ (p : ℕ × ℕ). ltb 0 p.0 && ltb 0 p.1 in
    let v = length-reverse o in
    any-some t (zip x (reverse o))
    ∙ ap some
    (table_is (meets x o) 26 (map t (zip x (reverse o))) (t (0, 0)) (length-map (zip x (reverse o)) t ∙ length-zip x (reverse o) ∙ omega arith)
    (λ k h.
    get_or-map t (zip x (reverse o)) k (0, 0) (t (0, 0)) (omega (arith, length-zip x (reverse o)))
    ∙ ap t (get_or-zip x (reverse o) k (0, 0) (omega arith) (omega arith))
    ∙ ap (λ (v : ℕ). t (get_or x k 0, v)) (get_or-reverse o k 0 (omega arith) ∙ ap (λ (n : ℕ). get_or o (n - 1 - k) 0) b)))
