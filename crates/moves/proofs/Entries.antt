-- What the entries answer, as the code's tests go, and what a window of the generator holds.
-- Assumes nothing.
use Rattle.std.proofs.Common.{Result, Ok, Err}
use mathlib.Core.Path.{◌≡◌, refl, sym, ap, ap₂, subst, ◌∙◌}
use mathlib.Core.Bool.{Bool, false, cond, and-false}
use mathlib.Core.List.{List, [], ◌∷◌, ◌++◌, map, flatten, map-map}
use mathlib.Core.Logic.{inl, inr}
use Prim.Native.Nat.{ℕ, zero, suc, ◌+◌, ◌*◌, ◌≤◌, ◌<◌}
use native.Mathlib.Omega.{arith}
use borrow.Author.Tests.{lt-ltb, le-ltb}
use lib.Dec.{ltb}
use lib.IntN.{ℤ, pos}
use lib.ListN.{length, get_or, drop, length-map}
use Rattle.ints.specs.Answer.{Answer, value, refused, carried}
use Rattle.ints.specs.Refusals.{number, refusal_in}
use Rattle.ints.specs.declared.refusal.Refusal.{Refusal}
use Rattle.ints.specs.Signed.{Small}
use Rattle.ints.specs.Twos.{twos, from_twos}
use Rattle.ints.specs.Lent.{Records, written}
use Rattle.ints.proofs.Lent.{records-map, written-list, window-record}
use Rattle.ints.proofs.Tests.{by_cond}
use Rattle.ints.proofs.Twos.{from-twos}
use Rattle.dice.specs.Dice.{is_die}
use Rattle.dice.proofs.TwoDice.{test-die}
use Rattle.position.specs.Board.{Accepted, start_refusal, switched}
use Rattle.position.specs.Answers.{Started}
use Rattle.position.proofs.Boards.{accepted-small}
use Rattle.position.proofs.SideSwitch.{switched-size}
use Rattle.rules.specs.Ends.{ends_of, switched_ends_of, In}
use Rattle.rules.proofs.Bound.{at_most}
use Rattle.rules.proofs.Switched.{switched-length, switched-end-accepted}
use Rattle.moves.specs.Bytes.{image, Passed, Took}
use Rattle.moves.specs.declared.window.Window.{Window}
use Rattle.moves.specs.Answers.{play_refusal, CanPlay, Playable, ends_count, list_answer, listed_in, count_answer, end_refusal}

-- ---- the refusals of a play

module _ (n : ℕ) (b : List ℤ) (d1 d2 : ℕ) where
  pub play-board : {r : ℕ} → Started n b r → (r ≡ 0 → ⊥) → Playable n b d1 d2 r
  unfolding play_refusal
  play-board {r} s h =
      let e = s.is in
      record { is = e ∙ rw (lt-ltb 0 (start_refusal n b) (omega (arith, h))); ok = λ z. absurd (h z) }

  module _ (e : start_refusal n b ≡ 0) where
    pub play-first : is_die d1 ≡ false → Playable n b d1 d2 7
    unfolding play_refusal
    play-first f = record { is = rw (le-ltb 0 (start_refusal n b) (omega arith), f); ok = λ z. absurd (omega arith) }

    pub play-second : is_die d2 ≡ false → Playable n b d1 d2 7
    unfolding play_refusal
    play-second f = record {
      is = rw (le-ltb 0 (start_refusal n b) (omega arith), f, and-false (is_die d1));
      ok = λ z. absurd (omega arith);
    }

    pub play-none : CanPlay n b d1 d2 → Playable n b d1 d2 0
    unfolding play_refusal
    play-none p = record { is = rw (le-ltb 0 (start_refusal n b) (omega arith), p.first, p.second); ok = λ z. p }

-- what is known where the test of a board is passed
pub may_start : {n : ℕ} {b : List ℤ} {A : Type 0} {r : Result A Refusal} → Started n b (refusal_in r) → {a : A} → r ≡ Ok a → Started n b 0
may_start {n} {b} {A} k e = subst (λ (r : Result A Refusal). Started n b (refusal_in r)) e k

-- what is known of a play where its test is passed, and where it is refused
module _ {n : ℕ} {b : List ℤ} {d1 d2 : ℕ} {A : Type 0} {r : Result A Refusal} (k : Playable n b d1 d2 (refusal_in r)) where
  pub may_play : {a : A} → r ≡ Ok a → Playable n b d1 d2 0
  may_play e = subst (λ (r : Result A Refusal). Playable n b d1 d2 (refusal_in r)) e k

  pub play-refused : {why : Refusal} → r ≡ Err why → number why ≡ play_refusal n b d1 d2
  play-refused e = sym (ap refusal_in e) ∙ k.is

-- ---- ends as records

pub image-size : (b : List ℤ) → length (image b) ≡ 26
unfolding image
image-size b = length-map (switched b) twos ∙ switched-size b

images : (b : List ℤ) (d1 d2 : ℕ) → map image (ends_of b d1 d2) ≡ map (map twos) (switched_ends_of b d1 d2)
unfolding switched_ends_of image
images b d1 d2 = sym (map-map (map twos) switched (ends_of b d1 d2))

records : (b : List ℤ) (d1 d2 : ℕ) → Records 26 (map image (ends_of b d1 d2))
records b d1 d2 = records-map 26 image (ends_of b d1 d2) image-size

module _ (b : List ℤ) (d1 d2 : ℕ) where
  pub count-is : length (ends_of b d1 d2) ≡ ends_count b d1 d2
  unfolding ends_count
  count-is = sym (switched-length b d1 d2)

  pub count_most : ends_count b d1 d2 ≤ 17550
  count_most = omega (arith, count-is, at_most b d1 d2)

  images-count : length (map image (ends_of b d1 d2)) ≡ ends_count b d1 d2
  images-count = length-map (ends_of b d1 d2) image ∙ count-is

  -- a list with room for all ends
  pub all_listed : (out : List ℕ) → ends_count b d1 d2 * 26 ≤ length out
      → written 26 out 0 0 (map image (ends_of b d1 d2)) ≡ flatten (map (map twos) (switched_ends_of b d1 d2)) ++ drop (ends_count b d1 d2 * 26) out
  all_listed out h =
      let c = images-count in
      written-list 26 out (map image (ends_of b d1 d2)) (omega arith) (records b d1 d2) (omega arith)
      ∙ ap₂ (λ (l : List ℕ) (k : ℕ). l ++ drop (k * 26) out) (ap flatten (images b d1 d2)) c

-- what a window over lent memory took was passed to that, however the ends are told
pub took-passed : {es fs : List (List ℤ)} {w w' : Window} {out out' : List ℕ} {from start r : ℕ} → w.out.now ≡ out → w.from ≡ from
    → Took es w start r w' → es ≡ fs → out' ≡ w'.out.now → Passed fs out from start r out'
took-passed {w = w} {start = start} o f t e l =
    let p = t.passed in
    rw (← o, ← f) record {
      number = p.number ∙ ap (λ (x : List (List ℤ)). start + length x) e;
      lent = l ∙ p.lent ∙ ap (λ (x : List (List ℤ)). written 26 w.out.now w.from start (map image x)) e;
    }

-- ---- an end read back from its bytes

pub get_or-from : (l : List ℕ) (k : ℕ) → k < length l → get_or (map from_twos l) k (pos 0) ≡ from_twos (get_or l k 0)
get_or-from [] k h = absurd (omega arith)
get_or-from (z ∷ l) zero h = refl
get_or-from (z ∷ l) (suc k) h = get_or-from l k (omega arith)

back : (l : List ℤ) → Small 127 l → map from_twos (map twos l) ≡ l
back [] s = refl
back (z ∷ l) s = ap₂ ◌∷◌ (from-twos z (omega (arith, s 0))) (back l (λ i. s (suc i)))

in-get_or : (l : List (List ℤ)) (k : ℕ) → k < length l → In (get_or l k []) l
in-get_or [] k h = absurd (omega arith)
in-get_or (e ∷ l) zero h = inl refl
in-get_or (e ∷ l) (suc k) h = inr (in-get_or l k (omega arith))

get_d_map : (l : List (List ℤ)) (k : ℕ) → get_or (map (map twos) l) k [] ≡ map twos (get_or l k [])
get_d_map [] k = refl
get_d_map (e ∷ l) zero = refl
get_d_map (e ∷ l) (suc k) = get_d_map l k

module _ (n : ℕ) (small : n ≤ 127) (b : List ℤ) (d1 d2 : ℕ) (p : CanPlay n b d1 d2) where
  -- a window of one slot at the end with number k holds it
  pub slot_read : (k : ℕ) (out : List ℕ) → length out ≡ 26 → k < ends_count b d1 d2
      → map from_twos (written 26 out k 0 (map image (ends_of b d1 d2))) ≡ get_or (switched_ends_of b d1 d2) k []
  slot_read k out l h =
      let c = images-count b d1 d2 in
      let e = get_or (switched_ends_of b d1 d2) k [] in
      ap (map from_twos) (
      window-record 26 out k (map image (ends_of b d1 d2)) (omega arith) l (records b d1 d2) (omega arith)
      ∙ ap (λ (x : List (List ℕ)). get_or x k []) (images b d1 d2) ∙ get_d_map (switched_ends_of b d1 d2) k
      )
      ∙ back e (λ i. omega (arith, accepted-small is-accepted i))
    where
      inside : k < length (switched_ends_of b d1 d2)
      inside = omega (arith, h, switched-length b d1 d2, count-is b d1 d2)

      is-accepted : Accepted n (get_or (switched_ends_of b d1 d2) k [])
      is-accepted =
          switched-end-accepted n b d1 d2 p.accepted (test-die d1 p.first) (test-die d2 p.second) (get_or (switched_ends_of b d1 d2) k [])
          (in-get_or (switched_ends_of b d1 d2) k inside)

-- ---- the answers, as the code's tests go

module _ (n : ℕ) (b : List ℤ) (d1 d2 : ℕ) where
  pub list-refused : (out : List ℕ) → 0 < play_refusal n b d1 d2
      → (refused (play_refusal n b d1 d2) 0 ≡ list_answer n b d1 d2 (length out)) × (out ≡ listed_in n b d1 d2 out)
  unfolding list_answer listed_in
  list-refused out h = (rw (lt-ltb 0 (play_refusal n b d1 d2) h), rw (lt-ltb 0 (play_refusal n b d1 d2) h))

  pub count-refused : 0 < play_refusal n b d1 d2 → refused (play_refusal n b d1 d2) 0 ≡ count_answer n b d1 d2
  unfolding count_answer
  count-refused h = rw (lt-ltb 0 (play_refusal n b d1 d2) h)

  pub end_refused : (k : ℕ) → 0 < play_refusal n b d1 d2 → play_refusal n b d1 d2 ≡ end_refusal n b d1 d2 k
  unfolding end_refusal
  end_refused k h = rw (lt-ltb 0 (play_refusal n b d1 d2) h)

  module _ (ok : play_refusal n b d1 d2 ≡ 0) where
    pub list-short : (out : List ℕ) → length out < ends_count b d1 d2 * 26
        → (refused 10 (ends_count b d1 d2) ≡ list_answer n b d1 d2 (length out)) × (out ≡ listed_in n b d1 d2 out)
    unfolding list_answer listed_in
    list-short out h = (
      rw (le-ltb 0 (play_refusal n b d1 d2) (omega arith), lt-ltb (length out) (ends_count b d1 d2 * 26) h),
      rw (le-ltb 0 (play_refusal n b d1 d2) (omega arith), lt-ltb (length out) (ends_count b d1 d2 * 26) h),
    )

    pub list_all : (out : List ℕ) → ends_count b d1 d2 * 26 ≤ length out
        → (value (ends_count b d1 d2) ≡ list_answer n b d1 d2 (length out)) × (written 26 out 0 0 (map image (ends_of b d1 d2)) ≡ listed_in n b d1 d2 out)
    unfolding list_answer listed_in
    list_all out h = (
      rw (le-ltb 0 (play_refusal n b d1 d2) (omega arith), le-ltb (length out) (ends_count b d1 d2 * 26) h),
      all_listed b d1 d2 out h ∙ rw (le-ltb 0 (play_refusal n b d1 d2) (omega arith), le-ltb (length out) (ends_count b d1 d2 * 26) h),
    )

    pub count-told : value (ends_count b d1 d2) ≡ count_answer n b d1 d2
    unfolding count_answer
    count-told = rw (le-ltb 0 (play_refusal n b d1 d2) (omega arith))

    pub end_none : (k : ℕ) → ends_count b d1 d2 ≤ k → 11 ≡ end_refusal n b d1 d2 k
    unfolding end_refusal
    end_none k h = rw (le-ltb 0 (play_refusal n b d1 d2) (omega arith), le-ltb k (ends_count b d1 d2) h)

    pub end-some : (k : ℕ) → k < ends_count b d1 d2 → 0 ≡ end_refusal n b d1 d2 k
    unfolding end_refusal
    end-some k h = rw (le-ltb 0 (play_refusal n b d1 d2) (omega arith), lt-ltb k (ends_count b d1 d2) h)

-- ---- what an answer carries is the number of ends, or nothing

carries : (t : Bool) (a b : Answer) → carried a ≤ 17550 → carried b ≤ 17550 → carried (cond t a b) ≤ 17550
carries t a b h k = by_cond t a b (λ x. carried x ≤ 17550) (λ e. h) (λ e. k)

module _ (n : ℕ) (b : List ℤ) (d1 d2 : ℕ) where
  pub list-carries : (size : ℕ) → carried (list_answer n b d1 d2 size) ≤ 17550
  unfolding list_answer
  list-carries size =
      carries (ltb 0 (play_refusal n b d1 d2)) (refused (play_refusal n b d1 d2) 0) _ (omega arith)
      (carries (ltb size (ends_count b d1 d2 * 26)) (refused 10 (ends_count b d1 d2)) (value (ends_count b d1 d2)) (count_most b d1 d2) (count_most b d1 d2))

  pub count-carries : carried (count_answer n b d1 d2) ≤ 17550
  unfolding count_answer
  count-carries =
      carries (ltb 0 (play_refusal n b d1 d2)) (refused (play_refusal n b d1 d2) 0) (value (ends_count b d1 d2)) (omega arith) (count_most b d1 d2)
