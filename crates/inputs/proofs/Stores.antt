-- Rows stored one after another: what a loop's turn and a whole net leave in the slice.
-- Assumes nothing.
use mathlib.Core.Path.{◌≡◌, refl, sym, ap, ◌∙◌}
use mathlib.Core.List.{List, [], ◌∷◌, ◌++◌, map, append-nil, append_assoc}
use Prim.Native.Nat.{ℕ, suc, ◌+◌, ◌*◌, ◌<◌, ◌≤◌}
use native.Mathlib.Omega.{arith}
use mathlib.Core.Bool.{not}
use lib.Dec.{T}
use lib.Ieee.{Float, nan, binary32, is_nan, to_bits}
use lib.ListN.{length, get_or, take, drop, drop_of_length-le}
use lib.Seq.{sets, sets-eq, drop-drop, drop-cons}
use borrow.Rule.Slice.PartMut.{put_mid}
use Rattle.position.specs.Board.{checkers}
use Rattle.inputs.specs.Inputs.{whole, bits, four, fours}
use Rattle.inputs.proofs.Floats.{whole-number, mapped_at}
use Rattle.inputs.proofs.Exact.{four-few}

-- a whole slice stored
pub sets-all : (l vs : List ℕ) → length vs ≡ length l → sets l 0 vs ≡ vs
sets-all l vs e =
    let z : 0 + length vs ≡ length vs = omega arith in
    let h : length l ≤ length vs = omega arith in
    sets-eq vs l 0 (omega arith) ∙ rw (z, drop_of_length-le l h) (append-nil vs)

-- a row of the table: its values are numbers, and these are its bits
pub row_number : (f : List Float) (n j : ℕ) → n ≤ checkers → j < 4 → f ≡ map whole (four n) → T (not (is_nan (get_or f j nan)))
row_number f n j h l e =
    let v : get_or f j nan ≡ whole (get_or (four n) j 0) = ap (λ (x : List Float). get_or x j nan) e ∙ mapped_at whole (four n) j nan l in
    rw v (whole-number (get_or (four n) j 0) (omega (arith, four-few n j h)))

pub row-bits : (f : List Float) (n : ℕ) → f ≡ map whole (four n)
    → to_bits binary32 (get_or f 0 nan) ∷ to_bits binary32 (get_or f 1 nan) ∷ to_bits binary32 (get_or f 2 nan) ∷ to_bits binary32 (get_or f 3 nan) ∷ []
    ≡ map bits (four n)
unfolding bits
row-bits f n e = rw e refl

-- values copied to a part of as many are set one after another
pub put-sets : (l vs : List ℕ) (i k : ℕ) → k ≡ length vs → i + k ≤ length l → put_mid i k l vs ≡ sets l i vs
put-sets l vs i k e h =
    let q : i + length vs ≤ length l = omega arith in
    ap (λ (x : List ℕ). take i l ++ (vs ++ x)) (drop-drop k i l)
    ∙ sym (append_assoc (take i l) vs (drop (i + k) l))
    ∙ rw e (sym (sets-eq vs l i q))

-- a loop's turn: the row of point k is stored, the others are still to come
pub row-stored : (counts l m : List ℕ) (k : ℕ) (r : List ℕ) → k < length counts → m ≡ sets l (2 + 4 * k) r → r ≡ map bits (four (get_or counts k 0))
    → sets m (2 + 4 * (k + 1)) (map bits (fours (drop (k + 1) counts))) ≡ sets l (2 + 4 * k) (map bits (fours (drop k counts)))
unfolding fours
row-stored counts l m k r h e g =
    let a : 2 + 4 * (k + 1) ≡ suc (suc (suc (suc (2 + 4 * k)))) = omega arith in
    let b : k + 1 ≡ suc k = omega arith in
    rw (a, b, drop-cons counts k 0 h, e, g)
