-- What the generator's entries answer (document 01, "Refusal numbers", "Steps and ends").
use Rattle.std.specs.Prelude.{◌≡◌, true, cond, ◌&&◌, ℕ, ◌*◌, ltb, ℤ, length, get_or, drop}
use mathlib.Core.List.{List, [], ◌++◌, map, flatten}
use Rattle.ints.specs.Answer.{Answer, value, refused}
use Rattle.ints.specs.Twos.{twos}
use Rattle.dice.specs.Dice.{is_die}
use Rattle.position.specs.Board.{Accepted, start_refusal}
use Rattle.position.specs.Answers.{BoardAnswer, board_answer}
use Rattle.rules.specs.Ends.{switched_ends_of}

-- "Refusal numbers", order: board 1 to 4, then 6, 5, 7; 0 for none
unfoldable pub play_refusal : ℕ → List ℤ → ℕ → ℕ → ℕ
play_refusal n b d1 d2 =
    cond (ltb 0 (start_refusal n b)) (start_refusal n b) (cond (is_die d1 && is_die d2) 0 7)

-- a play can be asked: the board is accepted, and the dice are dice
pub record CanPlay (n : ℕ) (b : List ℤ) (d1 d2 : ℕ) : Type 0 where
  pub accepted : Accepted n b
  pub first : is_die d1 ≡ true
  pub second : is_die d2 ≡ true

-- what the test of a play answers: its refusal, and where that is 0 a play can be asked
pub record Playable (n : ℕ) (b : List ℤ) (d1 d2 r : ℕ) : Type 0 where
  pub is : r ≡ play_refusal n b d1 d2
  pub ok : r ≡ 0 → CanPlay n b d1 d2

-- "Steps and ends": the number of ends
unfoldable pub ends_count : List ℤ → ℕ → ℕ → ℕ
ends_count b d1 d2 = length (switched_ends_of b d1 d2)

-- "Refusal numbers" 10: the number of ends, or 10 with that number where the list has less than 26 bytes for each
unfoldable pub list_answer : ℕ → List ℤ → ℕ → ℕ → ℕ → Answer
list_answer n b d1 d2 size =
    cond (ltb 0 (play_refusal n b d1 d2)) (refused (play_refusal n b d1 d2) 0)
    (cond (ltb size (ends_count b d1 d2 * 26)) (refused 10 (ends_count b d1 d2)) (value (ends_count b d1 d2)))

-- "Steps and ends": the lent list afterwards, 26 bytes an end in two's complement, and the bytes after the last end as they were; all
-- of it as it was where listing is refused
unfoldable pub listed_in : ℕ → List ℤ → ℕ → ℕ → List ℕ → List ℕ
listed_in n b d1 d2 out =
    cond (ltb 0 (play_refusal n b d1 d2)) out
    (cond (ltb (length out) (ends_count b d1 d2 * 26)) out
    (flatten (map (map twos) (switched_ends_of b d1 d2)) ++ drop (ends_count b d1 d2 * 26) out))

-- "Steps and ends": there is also the number of ends
unfoldable pub count_answer : ℕ → List ℤ → ℕ → ℕ → Answer
count_answer n b d1 d2 =
    cond (ltb 0 (play_refusal n b d1 d2)) (refused (play_refusal n b d1 d2) 0) (value (ends_count b d1 d2))

-- "Refusal numbers" 11: a number not below the number of ends, after the refusals of a play; 0 for none
unfoldable pub end_refusal : ℕ → List ℤ → ℕ → ℕ → ℕ → ℕ
end_refusal n b d1 d2 k =
    cond (ltb 0 (play_refusal n b d1 d2)) (play_refusal n b d1 d2) (cond (ltb k (ends_count b d1 d2)) 0 11)

-- "Steps and ends": the end by its number, counted from 0 in list order, as a board with sides switched
unfoldable pub end_answer : ℕ → List ℤ → ℕ → ℕ → ℕ → BoardAnswer
end_answer n b d1 d2 k = board_answer (end_refusal n b d1 d2 k) (get_or (switched_ends_of b d1 d2) k [])
