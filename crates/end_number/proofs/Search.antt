-- What a window tells of the number of an end, and what is answered, as the code's tests go. Assumes nothing.
use mathlib.Core.Path.{◌≡◌, sym, ◌∙◌}
use mathlib.Core.List.{List, [], map}
use Prim.Native.Nat.{ℕ, ◌+◌, ◌≤◌, ◌<◌}
use native.Mathlib.Omega.{arith}
use Rattle.std.proofs.Common.{Some, None}
use borrow.Author.Tests.{lt-ltb, le-ltb}
use lib.IntN.{ℤ}
use lib.ListN.{length, get_or}
use Rattle.ints.specs.Answer.{value, refused}
use Rattle.ints.specs.Lent.{written}
use Rattle.rules.specs.Ends.{ends_of, switched_ends_of}
use Rattle.rules.proofs.Switched.{switched-length}
use Rattle.moves.specs.Answers.{CanPlay, play_refusal, ends_count}
use Rattle.moves.specs.Bytes.{image}
use Rattle.moves.proofs.Entries.{count-is}
use Rattle.end_number.specs.Number.{place, number_answer}
use Rattle.end_number.specs.Slots.{Holds, FirstHeld}
use Rattle.end_number.proofs.Place.{place-past-all, place_at}
use Rattle.end_number.proofs.Slots.{shows}

-- a window whose first m slots show ends, from the number `from` on; e has no number below that
pub record Window (b : List ℤ) (d1 d2 : ℕ) (e : List ℤ) (slots : List ℕ) (from m : ℕ) : Type 0 where
  pub none_before : from ≤ place e (switched_ends_of b d1 d2)
  pub few : m ≤ 32
  pub within : from + m ≤ ends_count b d1 d2
  pub out : List ℕ
  pub size : length out ≡ 832
  pub filled : slots ≡ written 26 out from 0 (map image (ends_of b d1 d2))

module _ (n : ℕ) (small : n ≤ 127) (b : List ℤ) (d1 d2 : ℕ) (p : CanPlay n b d1 d2) (e : List ℤ) (slots : List ℕ) (from m : ℕ)
    (w : Window b d1 d2 e slots from m) where
  count : length (switched_ends_of b d1 d2) ≡ ends_count b d1 d2
  count = switched-length b d1 d2 ∙ count-is b d1 d2

  at : (k : ℕ) → k < m → Holds slots k e → get_or (switched_ends_of b d1 d2) (from + k) [] ≡ e
  unfolding Holds
  at k h q = sym (shows n small b d1 d2 p slots w.out from k w.filled w.size (omega arith) (omega arith)) ∙ q

  at_only : (k : ℕ) → k < m → get_or (switched_ends_of b d1 d2) (from + k) [] ≡ e → Holds slots k e
  unfolding Holds
  at_only k h q = shows n small b d1 d2 p slots w.out from k w.filled w.size (omega arith) (omega arith) ∙ q

  -- where none holds e, e has none of their numbers
  pub window-past : FirstHeld slots m e None → from + m ≤ place e (switched_ends_of b d1 d2)
  window-past f =
      let c = count in
      place-past-all e (switched_ends_of b d1 d2) from m w.none_before (omega (arith, w.within)) (λ j h q. f j h (at_only j h q))

  -- the slot that holds e is its number
  pub window-found : (i : ℕ) → FirstHeld slots m e (Some i) → place e (switched_ends_of b d1 d2) ≡ from + i
  window-found i f =
      let c = count in
      let p = place-past-all e (switched_ends_of b d1 d2) from i w.none_before (omega (arith, f.0, w.within)) (λ j h q. f.2 j h (at_only j (omega (arith, f.0)) q)) in
      place_at e (switched_ends_of b d1 d2) (from + i) p (omega (arith, f.0, w.within)) (at i f.0 f.1)

-- ---- the answers

module _ (n : ℕ) (b : List ℤ) (d1 d2 : ℕ) (e : List ℤ) where
  pub number-refused : 0 < play_refusal n b d1 d2 → refused (play_refusal n b d1 d2) 0 ≡ number_answer n b d1 d2 e
  unfolding number_answer
  number-refused h = rw (lt-ltb 0 (play_refusal n b d1 d2) h)

  module _ (ok : play_refusal n b d1 d2 ≡ 0) where
    pub number-some : (k : ℕ) → place e (switched_ends_of b d1 d2) ≡ k → k < ends_count b d1 d2 → value k ≡ number_answer n b d1 d2 e
    unfolding number_answer
    number-some k q h = rw (le-ltb 0 (play_refusal n b d1 d2) (omega arith), q, lt-ltb k (ends_count b d1 d2) h)

    pub number-none : ends_count b d1 d2 ≤ place e (switched_ends_of b d1 d2) → refused 12 0 ≡ number_answer n b d1 d2 e
    unfolding number_answer
    number-none h = rw (le-ltb 0 (play_refusal n b d1 d2) (omega arith), le-ltb (place e (switched_ends_of b d1 d2)) (ends_count b d1 d2) h)
