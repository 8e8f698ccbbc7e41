-- What a slot of the window holds: by its bytes, and by the number of the end at which the window begins. Assumes nothing.
use mathlib.Core.Path.{◌≡◌, refl, sym, ap, ◌∙◌}
use mathlib.Core.List.{List, [], map}
use Prim.Native.Nat.{ℕ, zero, suc, ◌+◌, ◌-◌, ◌*◌, ◌/◌, ◌≤◌, ◌<◌}
use native.Mathlib.Omega.{arith}
use lib.IntN.{ℤ}
use Rattle.std.proofs.Common.{Option, Some, None}
use Rattle.std.specs.List.{AllWithin, HoldsAt}
use Rattle.std.specs.Option.{MatchOption}
use Rattle.std.specs.Simd.{first_chunks}
use lib.ListN.{length, get_or, take, drop, replicate, length-map, length-replicate}
use lib.Seq.{get_or-take, length-take-le, drop-drop}
use Rattle.ints.specs.Lent.{Records, written}
use Rattle.ints.specs.Twos.{from_twos}
use Rattle.ints.proofs.Lent.{records-map, written-slot, window-record}
use Rattle.rules.specs.Ends.{ends_of, switched_ends_of}
use Rattle.moves.specs.Answers.{CanPlay, ends_count}
use Rattle.moves.specs.Bytes.{image}
use Rattle.moves.proofs.Entries.{image-size, count-is, slot_read}
use Rattle.end_number.specs.Slots.{Holds, FirstHeld}

-- ---- slot by slot

-- the chunk k of a list is a slot
chunk-at : (s : List ℕ) (n m k : ℕ) (d : List ℕ) → k < m → get_or (first_chunks n m s) k d ≡ take n (drop (k * n) s)
chunk-at s n zero k d h = absurd (omega arith)
chunk-at s n (suc m) zero d h = let z : 0 * n ≡ 0 = omega arith in rw z
chunk-at s n (suc m) (suc k) d h = chunk-at (drop n s) n m k d (omega arith) ∙ ap (take n) (drop-drop (k * n) n s ∙ ap (λ (i : ℕ). drop i s) (let z : n + k * n ≡ suc k * n = omega arith in z))

length_chunks : (s : List ℕ) (n m : ℕ) → length (first_chunks n m s) ≡ m
length_chunks s n zero = refl
length_chunks s n (suc m) = ap suc (length_chunks (drop n s) n m)

-- what is found among the first n slots, as chunks
module _ (slots : List ℕ) (s : length slots ≡ 832) (n : ℕ) (h : n ≤ 32) (e : List ℤ) (chunks : List (List ℕ))
    (c : chunks ≡ first_chunks 26 (length slots / 26) slots) where
  at-slot : (k : ℕ) (d : List ℕ) → k < n → get_or (take n chunks) k d ≡ take 26 (drop (k * 26) slots)
  at-slot k d g =
      let r : length slots / 26 ≡ 32 = ap (λ (x : ℕ). x / 26) s in
      get_or-take n chunks k d g ∙ ap (λ (l : List (List ℕ)). get_or l k d) c ∙ chunk-at slots 26 (length slots / 26) k d (omega arith)

  shown : length (take n chunks) ≡ n
  shown =
      let r : length slots / 26 ≡ 32 = ap (λ (x : ℕ). x / 26) s in
      length-take-le n chunks (omega (arith, ap length c, length_chunks slots 26 (length slots / 26)))

  pub first-held : (r : Option ℕ)
      → MatchOption r (AllWithin (λ x. map from_twos x ≡ e → ⊥) (take n chunks) 0 (length (take n chunks)))
      (λ i. (i < length (take n chunks)) × HoldsAt (λ x. map from_twos x ≡ e) (take n chunks) i × AllWithin (λ x. map from_twos x ≡ e → ⊥) (take n chunks) 0 i)
      → FirstHeld slots n e r
  unfolding Holds
  first-held None m = λ k g q. m k [] (omega arith) (omega (arith, shown)) (ap (map from_twos) (at-slot k [] g) ∙ q)
  first-held (Some i) m =
      let j : i < n = omega (arith, m.0, shown) in
      (j, ap (map from_twos) (sym (at-slot i [] j)) ∙ m.1 [], λ k g q. m.2 k [] (omega arith) g (ap (map from_twos) (at-slot k [] (omega arith)) ∙ q))

-- ---- a window over the ends of a roll

module _ (n : ℕ) (small : n ≤ 127) (b : List ℤ) (d1 d2 : ℕ) (p : CanPlay n b d1 d2) where
  records : Records 26 (map image (ends_of b d1 d2))
  records = records-map 26 image (ends_of b d1 d2) image-size

  -- a slot holds the end with its number
  pub shows : (slots out : List ℕ) (from k : ℕ) → slots ≡ written 26 out from 0 (map image (ends_of b d1 d2)) → length out ≡ 832 → k < 32
      → from + k < ends_count b d1 d2 → map from_twos (take 26 (drop (k * 26) slots)) ≡ get_or (switched_ends_of b d1 d2) (from + k) []
  shows slots out from k e s h l =
      let es = map image (ends_of b d1 d2) in
      let c : length es ≡ ends_count b d1 d2 = length-map (ends_of b d1 d2) image ∙ count-is b d1 d2 in
      let one = replicate {A = ℕ} 26 0 in
      let r : length one ≡ 26 = length-replicate {A = ℕ} 26 0 in
      let i : from + k - from ≡ k = omega arith in
      let z : from + k - 0 ≡ from + k = omega arith in
      let room : length out / 26 ≡ 32 = ap (λ (x : ℕ). x / 26) s in
      let w = written-slot 26 out from 0 es (from + k) records (omega arith) (omega arith) (omega arith) (omega arith) in
      let same = (rw (i, z) at w) ∙ sym (window-record 26 one (from + k) es (omega arith) r records (omega arith)) in
      rw e (ap (map from_twos) same ∙ slot_read n small b d1 d2 p (from + k) one r l)
