-- The boards to try: the test of a case, and that antt computes it to pass for each.
use mathlib.Core.Path.{◌≡◌, refl}
use mathlib.Core.Bool.{Bool, true, false, cond, ◌&&◌}
use mathlib.Core.List.{List, [], ◌∷◌}
use Prim.Native.Nat.{ℕ}
use lib.Dec.{eqb, ltb}
use lib.IntN.{ℤ}
use lib.ListN.{length}
use Rattle.ints.specs.Bits.{digits, bits_of}
use Rattle.ints.specs.Sums.{all, sum_to, total}
use Rattle.dice.specs.Dice.{is_die}
use Rattle.position.specs.Board.{checkers, xs, refusal_of, start_refusal}
use Rattle.position.specs.Phase.{highest}
use Rattle.position.specs.Step.{can_step, clear_from, off_from, stepped, lifted, landed}
use Rattle.rules.specs.Ends.{same_board, ends_of}
use Rattle.moves.specs.Answers.{play_refusal}
use Rattle.bg_move.specs.declared.Step.{Step}
use Rattle.bg_move.specs.Steps.{lost, lost_next, leads, leads_both, one_checker, two_checkers, mixed_steps, double_steps, steps_of}
use Rattle.bg_move.specs.Answers.{recover_refusal, recovered}
use Rattle.key.specs.Key.{lead, rest, counts_of, o_side, bits_refusal, key_refusal}
use Rattle.starred.specs.Cases.{Case, ends, steps, recovery_refused, listing_refused, key_refused, number_of, cases}

-- 26 entries, and no x on o's bar
unfoldable pub good : List ℤ → Bool
good b = eqb (length b) 26 && eqb (xs b 0) 0

abbrev pub same : List (List ℤ) → List (List ℤ) → Bool
same [] [] = true
same [] (c ∷ cs) = false
same (b ∷ bs) [] = false
same (b ∷ bs) (c ∷ cs) = same_board b c && same bs cs

abbrev pub same_steps : List Step → List Step → Bool
same_steps [] [] = true
same_steps [] (t ∷ ts) = false
same_steps (s ∷ ss) [] = false
same_steps (s ∷ ss) (t ∷ ts) = (eqb s.from t.from && eqb s.to t.to) && same_steps ss ts

-- k is a refusal's number, and r is k
abbrev pub refuses : ℕ → ℕ → Bool
refuses k r = ltb 0 k && eqb r k

unfoldable pub passes : Case → Bool
unfolding good is_die
passes (ends number b d1 d2 es) = (good b && (is_die d1 && is_die d2)) && same (ends_of b d1 d2) es
passes (steps number b d1 d2 e ts) = eqb (recover_refusal checkers b d1 d2 e) 0 && same_steps (recovered checkers b d1 d2 e) ts
passes (recovery_refused number b d1 d2 e k) = refuses k (recover_refusal checkers b d1 d2 e)
passes (listing_refused number b k) = refuses k (start_refusal checkers b)
passes (key_refused number bytes k) = refuses k (key_refusal checkers bytes)

-- the numbers of the cases that do not pass
abbrev pub failing : List Case → List ℕ
failing [] = []
failing (c ∷ cs) = cond (passes c) (failing cs) (number_of c ∷ failing cs)

pub passed : failing cases ≡ []
unfolding passes ends_of can_step clear_from off_from all stepped lifted landed start_refusal refusal_of sum_to play_refusal recover_refusal recovered steps_of mixed_steps double_steps one_checker two_checkers leads_both leads lost lost_next highest key_refusal bits_refusal total o_side counts_of lead rest bits_of digits
passed = refl
