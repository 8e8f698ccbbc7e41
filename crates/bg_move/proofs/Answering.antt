-- What recovery answers, as the code's tests go; stated over the number n of checkers a side.
-- Assumes nothing.
use mathlib.Core.Path.{◌≡◌, refl, sym, ◌∙◌}
use mathlib.Core.Bool.{Bool, true, false, cond}
use mathlib.Core.List.{List, []}
use Prim.Native.Nat.{ℕ, ◌≤◌, ◌<◌}
use native.Mathlib.Omega.{arith}
use borrow.Author.Tests.{lt-ltb, le-ltb, eq-eqb, ne_eqb, ltb-true, ltb-false}
use lib.Dec.{ltb}
use lib.IntN.{ℤ}
use lib.ListN.{length}
use Rattle.std.specs.Prelude.{Result, Ok, Err}
use Rattle.std.specs.Result.{is_ok, is_err}
use Rattle.ints.specs.Answer.{Answer, value, refused}
use Rattle.ints.specs.Refusals.{number}
use Rattle.ints.specs.declared.refusal.Refusal.{Refusal}
use Rattle.ints.proofs.Refusals.{number-pos}
use Rattle.ints.proofs.Tests.{by_cond}
use Rattle.dice.proofs.TwoDice.{test-die}
use Rattle.position.specs.Board.{refusal_of, switched}
use Rattle.position.proofs.Boards.{accepted-unrefused}
use Rattle.rules.specs.Ends.{ends_of, switched_ends_of, among}
use Rattle.rules.proofs.Accepted.{end-accepted}
use Rattle.rules.proofs.Exact.{accepted-exact}
use Rattle.rules.proofs.Lists.{among-is}
use Rattle.moves.specs.Answers.{CanPlay, play_refusal, ends_count}
use Rattle.moves.proofs.Entries.{count-is}
use Rattle.end_number.specs.Number.{place, number_told, number_answer}
use Rattle.end_number.proofs.Place.{place_in, in_place, number-switched}
use Rattle.bg_move.specs.declared.Steps.{Steps}
use Rattle.bg_move.specs.Steps.{steps_of}
use Rattle.bg_move.specs.Answers.{recover_refusal, recovered, steps_value, recovered_told, recovered_answer}

-- ---- a test of an answer, whose number is 0 where it is no refusal

module _ {A E : Type 0} (told : Result A E → ℕ) (fine : (a : A) → told (Ok a) ≡ 0) (wrong : (why : E) → 0 < told (Err why)) where
  pub err-refused : (r : Result A E) → is_err r ≡ true → 0 < told r
  err-refused (Ok a) h = cc
  err-refused (Err why) h = wrong why

  pub unrefused : (r : Result A E) → is_err r ≡ false → told r ≡ 0
  unrefused (Ok a) h = fine a
  unrefused (Err why) h = cc

-- ---- whether a board told from the mover's side is an end

either : (t : Bool) {X : Bool} → X ≡ t → (X ≡ true → ⊥) → false ≡ X
either true q f = absurd (f q)
either false q f = sym q

module _ (n : ℕ) (b : List ℤ) (d1 d2 : ℕ) (p : CanPlay n b d1 d2) (e : List ℤ) where
  -- a board that is not accepted is none
  pub refused-no-end : (refusal_of n e ≡ 0 → ⊥) → false ≡ among e (ends_of b d1 d2)
  refused-no-end h =
      either (among e (ends_of b d1 d2)) refl (λ q.
      h (accepted-unrefused n e (end-accepted n b d1 d2 e p.accepted
      ((accepted-exact p.accepted d1 d2 (test-die d1 p.first) (test-die d2 p.second) e).0 ((among-is e (ends_of b d1 d2)).0 q)))))

  module _ (size : length e ≡ 26) where
    place_is : place (switched e) (switched_ends_of b d1 d2) ≡ place e (ends_of b d1 d2)
    place_is = number-switched n b d1 d2 p.accepted (test-die d1 p.first) (test-die d2 p.second) e size

    numbered : place (switched e) (switched_ends_of b d1 d2) < ends_count b d1 d2 → true ≡ among e (ends_of b d1 d2)
    numbered h =
        sym ((among-is e (ends_of b d1 d2)).1 (in_place e (ends_of b d1 d2) (omega (arith, place_is, count-is b d1 d2))))

    unnumbered : ends_count b d1 d2 ≤ place (switched e) (switched_ends_of b d1 d2) → false ≡ among e (ends_of b d1 d2)
    unnumbered h =
        either (among e (ends_of b d1 d2)) refl (λ q.
        let m = place_in e (ends_of b d1 d2) ((among-is e (ends_of b d1 d2)).0 q) in omega (arith, place_is, count-is b d1 d2))

    abbrev answer : Answer
    answer =
        cond (ltb (place (switched e) (switched_ends_of b d1 d2)) (ends_count b d1 d2)) (value (place (switched e) (switched_ends_of b d1 d2))) (refused 12 0)

    asked : play_refusal n b d1 d2 ≡ 0 → number_answer n b d1 d2 (switched e) ≡ answer
    unfolding number_answer
    asked z = rw (le-ltb 0 (play_refusal n b d1 d2) (omega arith))

    number-end : play_refusal n b d1 d2 ≡ 0 → (k : ℕ) → value k ≡ number_answer n b d1 d2 (switched e) → true ≡ among e (ends_of b d1 d2)
    number-end z k q =
        by_cond (ltb (place (switched e) (switched_ends_of b d1 d2)) (ends_count b d1 d2)) (value (place (switched e) (switched_ends_of b d1 d2))) (refused 12 0)
        (λ a. value k ≡ a → true ≡ among e (ends_of b d1 d2))
        (λ t r. numbered (ltb-true (place (switched e) (switched_ends_of b d1 d2)) (ends_count b d1 d2) t))
        (λ t r. let y : ◌≡◌ {A = ℕ} 0 1 = cc in absurd (omega arith))
        (q ∙ asked z)

    refused_end : play_refusal n b d1 d2 ≡ 0 → (k : ℕ) → refused k 0 ≡ number_answer n b d1 d2 (switched e) → false ≡ among e (ends_of b d1 d2)
    refused_end z k q =
        by_cond (ltb (place (switched e) (switched_ends_of b d1 d2)) (ends_count b d1 d2)) (value (place (switched e) (switched_ends_of b d1 d2))) (refused 12 0)
        (λ a. refused k 0 ≡ a → false ≡ among e (ends_of b d1 d2))
        (λ t r. let y : ◌≡◌ {A = ℕ} 0 1 = cc in absurd (omega arith))
        (λ t r. unnumbered (ltb-false (place (switched e) (switched_ends_of b d1 d2)) (ends_count b d1 d2) t))
        (q ∙ asked z)

    -- it is one where the other side's view of it has a number
    pub numbered-end : play_refusal n b d1 d2 ≡ 0 → (r : Result ℕ Refusal) → number_told r ≡ number_answer n b d1 d2 (switched e) → is_ok r ≡ among e (ends_of b d1 d2)
    numbered-end z (Ok k) q = number-end z k q
    numbered-end z (Err r) q = refused_end z (number r) q

-- ---- the answer

module _ (n : ℕ) (b : List ℤ) (d1 d2 : ℕ) (e : List ℤ) where
  pub recover-play : 0 < play_refusal n b d1 d2 → play_refusal n b d1 d2 ≡ recover_refusal n b d1 d2 e
  unfolding recover_refusal
  recover-play h = rw (lt-ltb 0 (play_refusal n b d1 d2) h)

  module _ (z : play_refusal n b d1 d2 ≡ 0) where
    pub recover-12 : among e (ends_of b d1 d2) ≡ false → 12 ≡ recover_refusal n b d1 d2 e
    unfolding recover_refusal
    recover-12 h = rw (le-ltb 0 (play_refusal n b d1 d2) (omega arith), h)

    pub recover-0 : among e (ends_of b d1 d2) ≡ true → 0 ≡ recover_refusal n b d1 d2 e
    unfolding recover_refusal
    recover-0 h = rw (le-ltb 0 (play_refusal n b d1 d2) (omega arith), h)

  -- the refusal's number and no steps
  pub refused-answer : (r : Refusal) → number r ≡ recover_refusal n b d1 d2 e → recovered_told (Err r) ≡ recovered_answer n b d1 d2 e
  unfolding recovered_answer recovered
  refused-answer r q =
      let h = number-pos r in
      rw (ne_eqb (recover_refusal n b d1 d2 e) 0 (λ z. omega arith)) (λ i. record { refused = q i; steps = steps_value [] })

  -- 0 and the steps
  pub made-answer : (s : Steps) → 0 ≡ recover_refusal n b d1 d2 e → s ≡ steps_value (steps_of b d1 d2 e) → recovered_told (Ok s) ≡ recovered_answer n b d1 d2 e
  unfolding recovered_answer recovered
  made-answer s q v =
      let m = recover_refusal n b d1 d2 e in
      rw (eq-eqb m 0 (sym q)) (λ i. record { refused = q i; steps = v i })
