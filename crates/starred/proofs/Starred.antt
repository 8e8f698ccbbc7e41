-- The starred boards: what the test of each case tells, and so what is told of all of them.
-- Assumes nothing.
use mathlib.Core.Path.{◌≡◌, refl, sym, subst, ap, ap₂, ◌∙◌}
use mathlib.Core.Logic.{◌↔◌}
use mathlib.Core.Bool.{Bool, true, false, cond, ◌&&◌}
use mathlib.Core.List.{List, [], ◌∷◌, ◌++◌}
use Prim.Native.Nat.{ℕ, ◌≤◌, ◌<◌}
use native.Mathlib.Omega.{arith}
use borrow.Author.Tests.{eqb-true, ltb-true, lt-ltb, le-ltb, ne_eqb}
use lib.Dec.{eqb, ltb}
use lib.IntN.{ℤ}
use lib.ListN.{length, drop}
use Rattle.ints.specs.Answer.{value, refused}
use Rattle.ints.proofs.Tests.{and_left, and_right}
use Rattle.dice.specs.Dice.{is_die}
use Rattle.dice.proofs.TwoDice.{test-die}
use Rattle.position.specs.Board.{checkers, xs, start_refusal}
use Rattle.position.specs.Step.{Good}
use Rattle.position.specs.Answers.{no_board, board_answer}
use Rattle.rules.specs.Plays.{LegalEnd}
use Rattle.rules.specs.Ends.{same_board, ends_of, In}
use Rattle.rules.proofs.Lists.{Boards, same_board-is}
use Rattle.rules.proofs.Exact.{exact}
use Rattle.moves.specs.Answers.{play_refusal}
use Rattle.moves.proofs.Entries.{list-refused}
use Rattle.bg_move.specs.declared.Step.{Step}
use Rattle.bg_move.specs.Answers.{recover_refusal, recovered, row_answer, row_after}
use Rattle.key.specs.Key.{key_refusal, board_of_key_answer}
use Rattle.starred.specs.Cases.{step, Case, ends, steps, recovery_refused, listing_refused, key_refused, number_of, Told, All, cases}
use Rattle.starred.proofs.Boards.{good, same, same_steps, refuses, passes, failing, passed}

and_parts : (s t : Bool) → s && t ≡ true → (s ≡ true) × (t ≡ true)
and_parts s t e = (and_left s t e, and_right s t e)

is-good : (b : List ℤ) → good b ≡ true → Good b
unfolding good
is-good b t =
    let h = and_parts (eqb (length b) 26) (eqb (xs b 0) 0) t in
    record { size = eqb-true (length b) 26 h.0; o-bar = eqb-true (xs b 0) 0 h.1 }

is_same : (l r : Boards) → same l r ≡ true → l ≡ r
is_same [] [] t = refl
is_same [] (c ∷ cs) t = cc
is_same (b ∷ bs) [] t = cc
is_same (b ∷ bs) (c ∷ cs) t =
    let h = and_parts (same_board b c) (same bs cs) t in
    let p = same_board-is b c h.0 in
    let q = is_same bs cs h.1 in
    cc

are-steps : (l r : List Step) → same_steps l r ≡ true → l ≡ r
are-steps [] [] t = refl
are-steps [] (s ∷ ss) t = cc
are-steps (s ∷ ss) [] t = cc
are-steps (s ∷ ss) (t ∷ ts) e =
    let h = and_parts (eqb s.from t.from && eqb s.to t.to) (same_steps ss ts) e in
    let k = and_parts (eqb s.from t.from) (eqb s.to t.to) h.0 in
    let p : s ≡ t = ap₂ step (eqb-true s.from t.from k.0) (eqb-true s.to t.to k.1) in
    let q = are-steps ss ts h.1 in
    cc

is-refusal : (k r : ℕ) → refuses k r ≡ true → (0 < k) × (r ≡ k)
is-refusal k r t =
    let h = and_parts (ltb 0 k) (eqb r k) t in
    (ltb-true 0 k h.0, eqb-true r k h.1)

-- what refuses a board refuses each play from it, whatever the dice
play-refused : (b : List ℤ) (k d1 d2 : ℕ) → 0 < k → start_refusal checkers b ≡ k → play_refusal checkers b d1 d2 ≡ k
unfolding play_refusal
play-refused b k d1 d2 h e = rw (e, lt-ltb 0 k h)

module _ (b : List ℤ) (d1 d2 : ℕ) (e : List ℤ) (row : List Step) where
  row_written : (ts : List Step) → recover_refusal checkers b d1 d2 e ≡ 0 → recovered checkers b d1 d2 e ≡ ts → length ts ≤ length row
      → (row_answer checkers b d1 d2 e (length row) ≡ value (length ts)) × (row_after checkers b d1 d2 e row ≡ ts ++ drop (length ts) row)
  unfolding row_answer row_after
  row_written ts z q h = (rw (z, q, le-ltb (length row) (length ts) h), rw (q, le-ltb (length row) (length ts) h))

  none-recovered : (k : ℕ) → 0 < k → recover_refusal checkers b d1 d2 e ≡ k → recovered checkers b d1 d2 e ≡ []
  unfolding recovered
  none-recovered k h q = rw (q, ne_eqb k 0 (λ z. omega arith))

  row_stays : (k : ℕ) → 0 < k → recover_refusal checkers b d1 d2 e ≡ k
      → (row_answer checkers b d1 d2 e (length row) ≡ refused k 0) × (row_after checkers b d1 d2 e row ≡ row)
  unfolding row_answer row_after
  row_stays k h q = (rw (q, lt-ltb 0 k h), rw (none-recovered k h q, le-ltb (length row) 0 (omega arith)))

-- a key's refusal stands beside zeros
key-refused : (bytes : List ℕ) (k : ℕ) → 0 < k → key_refusal checkers bytes ≡ k → board_of_key_answer checkers bytes ≡ record { refused = k; board = no_board }
unfolding board_of_key_answer board_answer
key-refused bytes k h e = rw (e, ne_eqb k 0 (λ z. omega arith))

told : (c : Case) → passes c ≡ true → Told c
unfolding passes
told (ends number b d1 d2 es) t =
    let h = and_parts (good b && (is_die d1 && is_die d2)) (same (ends_of b d1 d2) es) t in
    let k = and_parts (good b) (is_die d1 && is_die d2) h.0 in
    let ds = and_parts (is_die d1) (is_die d2) k.1 in
    let q = is_same (ends_of b d1 d2) es h.1 in
    (q, λ e. subst (λ (l : Boards). In e l ↔ LegalEnd b d1 d2 e) q (exact b d1 d2 (is-good b k.0) (test-die d1 ds.0) (test-die d2 ds.1) e))
told (steps number b d1 d2 e ts) t = λ row h.
    let k = and_parts (eqb (recover_refusal checkers b d1 d2 e) 0) (same_steps (recovered checkers b d1 d2 e) ts) t in
    row_written b d1 d2 e row ts (eqb-true (recover_refusal checkers b d1 d2 e) 0 k.0) (are-steps (recovered checkers b d1 d2 e) ts k.1) h
told (recovery_refused number b d1 d2 e k) t = λ row.
    let h = is-refusal k (recover_refusal checkers b d1 d2 e) t in
    row_stays b d1 d2 e row k h.0 h.1
told (listing_refused number b k) t = λ d1 d2 out.
    let h = is-refusal k (start_refusal checkers b) t in
    let e = play-refused b k d1 d2 h.0 h.1 in
    let r = list-refused checkers b d1 d2 out (omega arith) in
    (sym r.0 ∙ ap (λ (i : ℕ). refused i 0) e, sym r.1)
told (key_refused number bytes k) t =
    let h = is-refusal k (key_refusal checkers bytes) t in
    key-refused bytes k h.0 h.1

all_told : (cs : List Case) → failing cs ≡ [] → All Told cs
all_told [] t = tt
all_told (c ∷ cs) t = go (all_told cs) (passes c) refl t
  where
    go : (failing cs ≡ [] → All Told cs) → (p : Bool) → passes c ≡ p → cond p (failing cs) (number_of c ∷ failing cs) ≡ [] → Told c × All Told cs
    go f true q k = (told c q, f k)
    go f false q k = let z : ◌≡◌ {A = ℕ} 0 1 = cc in absurd (omega arith)

-- what is told of each starred board holds
pub starred : All Told cases
starred = all_told cases passed
