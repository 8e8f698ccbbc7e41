-- The row of steps that is lent: what is answered, and the row afterwards, where the answer is a refusal, where the row has too few places, and
-- where the steps are copied to its first places.
-- Assumes nothing.
use mathlib.Core.Path.{◌≡◌, refl, sym, ap, ◌∙◌}
use mathlib.Core.List.{List, [], ◌∷◌, ◌++◌}
use Prim.Native.Nat.{ℕ, suc, ◌+◌, ◌*◌, ◌≤◌, ◌<◌}
use native.Mathlib.Omega.{arith}
use borrow.Author.Tests.{lt-ltb, le-ltb, ne_eqb}
use lib.Dec.{eqb}
use lib.IntN.{ℤ}
use lib.ListN.{length, get_or, set, take, drop}
use lib.Seq.{take-suc, take_all, drop-cons, set_at, append_snoc, length-take-le}
use Rattle.std.specs.Prelude.{Ok, Err}
use Rattle.ints.specs.Answer.{packed}
use Rattle.ints.specs.Refusals.{number}
use Rattle.ints.specs.declared.refusal.Refusal.{Refusal}
use Rattle.ints.proofs.Refusals.{number-pos}
use Rattle.ints.proofs.Tests.{by_cond}
use Rattle.bg_move.specs.declared.Step.{Step}
use Rattle.bg_move.specs.declared.Steps.{Steps}
use Rattle.bg_move.specs.Steps.{steps_of}
use Rattle.bg_move.specs.Answers.{Recovered, recover_refusal, recovered, places, steps_value, recovered_told, recovered_answer, row_answer, row_after}
use Rattle.bg_move.proofs.Recovery.{at-most-four}

pub recovered-most : (n : ℕ) (b : List ℤ) (d1 d2 : ℕ) (e : List ℤ) → length (recovered n b d1 d2 e) ≤ 4
unfolding recovered
recovered-most n b d1 d2 e =
    by_cond (eqb (recover_refusal n b d1 d2 e) 0) (steps_of b d1 d2 e) [] (λ l. length l ≤ 4) (λ t. at-most-four b d1 d2 e) (λ t. omega arith)

-- the steps, read back from their places
take-places : (ts : List Step) → length ts ≤ 4 → take (length ts) (places ts) ≡ ts
take-places [] h = refl
take-places (s ∷ []) h = refl
take-places (s ∷ t ∷ []) h = refl
take-places (s ∷ t ∷ u ∷ []) h = refl
take-places (s ∷ t ∷ u ∷ v ∷ []) h = refl
take-places (s ∷ t ∷ u ∷ v ∷ w ∷ ts) h = absurd (omega arith)

-- the first i steps of a list before what stood in the other places: none of them, one more, and all
pub laid : List Step → ℕ → List Step → List Step
laid ts i row = take i ts ++ drop i row

pub laid-none : (ts row : List Step) → row ≡ laid ts 0 row
unfolding laid
laid-none ts row = refl

pub laid_more : (ts row : List Step) (i : ℕ) (d : Step) → i < length ts → i < length row → set (laid ts i row) i (get_or ts i d) ≡ laid ts (i + 1) row
unfolding laid
laid_more ts row i d h m =
    let t = get_or ts i d in
    let n : i + 1 ≡ suc i = omega arith in
    rw n (
    ap (λ (l : List Step). set (take i ts ++ l) i t) (drop-cons row i t m)
    ∙ set_at (take i ts) (get_or row i t) (drop (suc i) row) t i (length-take-le i ts (omega arith))
    ∙ sym (append_snoc (take i ts) t (drop (suc i) row))
    ∙ ap (λ (l : List Step). l ++ drop (suc i) row) (sym (take-suc ts i d h))
    )

pub laid-all : (ts row : List Step) → laid ts (length ts) row ≡ ts ++ drop (length ts) row
unfolding laid
laid-all ts row = ap (λ (l : List Step). l ++ drop (length ts) row) (take_all (length ts) ts (omega arith))

module _ (n : ℕ) (b : List ℤ) (d1 d2 : ℕ) (e : List ℤ) (row : List Step) where
  abbrev steps : List Step
  steps = recovered n b d1 d2 e

  -- a refusal: its number, and the row as it was
  module _ (r : Refusal) (is : recovered_told (Err r) ≡ recovered_answer n b d1 d2 e) where
    refusal-is : number r ≡ recover_refusal n b d1 d2 e
    unfolding recovered_answer
    refusal-is = ap (λ (a : Recovered). a.refused) is

    none : steps ≡ []
    unfolding recovered
    none = rw (ne_eqb (recover_refusal n b d1 d2 e) 0 (λ z. omega (arith, number-pos r, refusal-is)))

    pub row-refused : (number r ≡ packed (row_answer n b d1 d2 e (length row))) × (row ≡ row_after n b d1 d2 e row)
    unfolding row_answer row_after
    row-refused = (
      rw (lt-ltb 0 (recover_refusal n b d1 d2 e) (omega (arith, number-pos r, refusal-is))) (omega (arith, refusal-is)),
      rw (none, le-ltb (length row) 0 (omega arith)),
    )

  module _ (s : Steps) (is : recovered_told (Ok s) ≡ recovered_answer n b d1 d2 e) where
    unrefused : 0 ≡ recover_refusal n b d1 d2 e
    unfolding recovered_answer
    unrefused = ap (λ (a : Recovered). a.refused) is

    steps-are : s ≡ steps_value steps
    unfolding recovered_answer
    steps-are = ap (λ (a : Recovered). a.steps) is

    count-is : s.count ≡ length steps
    unfolding steps_value
    count-is = ap (λ (v : Steps). v.count) steps-are

    -- each stands in one of the four places
    pub count-most : s.count ≤ 4
    count-most = omega (arith, count-is, recovered-most n b d1 d2 e)

    first-places : take s.count s.steps ≡ steps
    unfolding steps_value
    first-places = rw steps-are (take-places steps (recovered-most n b d1 d2 e))

    -- the steps alone
    module _ (ts : List Step) (alone : ts ≡ take s.count s.steps) where
      ts-are : ts ≡ steps
      ts-are = alone ∙ first-places

      -- too few places: 27, and the row as it was
      pub row-short : length row < length ts → (27 ≡ packed (row_answer n b d1 d2 e (length row))) × (row ≡ row_after n b d1 d2 e row)
      unfolding row_answer row_after
      row-short h =
          let few = lt-ltb (length row) (length steps) (omega (arith, ap length ts-are)) in
          (rw (le-ltb 0 (recover_refusal n b d1 d2 e) (omega (arith, unrefused)), few), rw few)

      -- enough: 256 times their number, and the steps before what stood in the other places
      pub row-made : length ts ≤ length row
          → (256 * length ts ≡ packed (row_answer n b d1 d2 e (length row))) × (ts ++ drop (length ts) row ≡ row_after n b d1 d2 e row)
      unfolding row_answer row_after
      row-made h =
          let enough = le-ltb (length row) (length steps) (omega (arith, ap length ts-are)) in (
            rw (le-ltb 0 (recover_refusal n b d1 d2 e) (omega (arith, unrefused)), enough) (omega (arith, ap length ts-are)),
            rw (enough, ts-are),
          )
