-- Two answers, and two states of lent memory, that meet one promise are equal, for each entry.
use mathlib.Core.Path.{◌≡◌}
use mathlib.Core.List.{List}
use Prim.Native.Nat.{ℕ}
use lib.IntN.{ℤ}
use lib.ListN.{length}
use Rattle.ints.specs.Answer.{packed}
use Rattle.ints.proofs.Tests.{one_answer}
use Rattle.position.specs.Board.{checkers, refusal_of}
use Rattle.position.specs.Phase.{phase_answer}
use Rattle.position.specs.Answers.{BoardAnswer}
use Rattle.moves.specs.Answers.{list_answer, listed_in, count_answer}
use Rattle.key.specs.Key.{KeyAnswer}
use Rattle.card.specs.Game.{turns_most}
use Rattle.card.specs.Read.{read_answer}
use Rattle.card.specs.Answers.{PositionAnswer, begin_answer, begun_in, add_answer, added_in}
use Rattle.inputs.specs.Answers.{InputAnswer, contact_answer, contact_lent, race_answer, race_lent}
use Rattle.munchalep.specs.Lent.{Put, PutKey, PutInput}
use Rattle.munchalep.specs.LentCard.{PutPosition}

pub check-unique : (b : List ℤ) (r s : ℕ) → r ≡ refusal_of checkers b → s ≡ refusal_of checkers b → r ≡ s
check-unique b r s p q = one_answer p q

-- of every entry that answers a board: `munchalep_switch`, `munchalep_step`, `munchalep_end` and `munchalep_board_of_key`
pub put-unique : (a : BoardAnswer) (out : List ℤ) (r s : ℕ) (l m : List ℤ) → Put a out r l → Put a out s m → (r ≡ s) × (l ≡ m)
put-unique a out r s l m p q = (one_answer p.number q.number, one_answer p.lent q.lent)

pub key-unique : (a : KeyAnswer) (out : List ℕ) (r s : ℕ) (l m : List ℕ) → PutKey a out r l → PutKey a out s m → (r ≡ s) × (l ≡ m)
key-unique a out r s l m p q = (one_answer p.number q.number, one_answer p.lent q.lent)

pub result-unique : (b : List ℤ) (r s : ℕ) → r ≡ packed (phase_answer checkers b) → s ≡ packed (phase_answer checkers b) → r ≡ s
result-unique b r s p q = one_answer p q

pub list-unique : (b : List ℤ) (d1 d2 : ℕ) (list : List ℕ) (r s : ℕ) (l m : List ℕ)
    → r ≡ packed (list_answer checkers b d1 d2 (length list)) → l ≡ listed_in checkers b d1 d2 list
    → s ≡ packed (list_answer checkers b d1 d2 (length list)) → m ≡ listed_in checkers b d1 d2 list → (r ≡ s) × (l ≡ m)
list-unique b d1 d2 list r s l m p u q v = (one_answer p q, one_answer u v)

pub count-unique : (b : List ℤ) (d1 d2 r s : ℕ) → r ≡ packed (count_answer checkers b d1 d2) → s ≡ packed (count_answer checkers b d1 d2) → r ≡ s
count-unique b d1 d2 r s p q = one_answer p q

pub card-begin-unique : (b : List ℤ) (buffer : List ℕ) (r s : ℕ) (l m : List ℕ)
    → r ≡ packed (begin_answer checkers b (length buffer)) → l ≡ begun_in checkers b buffer
    → s ≡ packed (begin_answer checkers b (length buffer)) → m ≡ begun_in checkers b buffer → (r ≡ s) × (l ≡ m)
card-begin-unique b buffer r s l m p u q v = (one_answer p q, one_answer u v)

pub card-add-unique : (buffer : List ℕ) (len d1 d2 : ℕ) (e : List ℤ) (r s : ℕ) (l m : List ℕ)
    → r ≡ packed (add_answer checkers turns_most buffer len d1 d2 e) → l ≡ added_in checkers turns_most buffer len d1 d2 e
    → s ≡ packed (add_answer checkers turns_most buffer len d1 d2 e) → m ≡ added_in checkers turns_most buffer len d1 d2 e → (r ≡ s) × (l ≡ m)
card-add-unique buffer len d1 d2 e r s l m p u q v = (one_answer p q, one_answer u v)

pub card-read-unique : (card : List ℕ) (r s : ℕ) → r ≡ packed (read_answer checkers turns_most card) → s ≡ packed (read_answer checkers turns_most card) → r ≡ s
card-read-unique card r s p q = one_answer p q

pub card-position-unique : (a : PositionAnswer) (out : List ℤ) (r s : ℕ) (l m : List ℤ) → PutPosition a out r l → PutPosition a out s m → (r ≡ s) × (l ≡ m)
card-position-unique a out r s l m p q = (one_answer p.number q.number, one_answer p.lent q.lent)

pub contact-inputs-unique : (b : List ℤ) (inputs : List ℕ) (r s : ℕ) (l m : List ℕ)
    → r ≡ packed (contact_answer checkers b (length inputs)) → l ≡ contact_lent checkers b inputs
    → s ≡ packed (contact_answer checkers b (length inputs)) → m ≡ contact_lent checkers b inputs → (r ≡ s) × (l ≡ m)
contact-inputs-unique b inputs r s l m p u q v = (one_answer p q, one_answer u v)

pub race-inputs-unique : (b : List ℤ) (inputs : List ℕ) (r s : ℕ) (l m : List ℕ)
    → r ≡ packed (race_answer checkers b (length inputs)) → l ≡ race_lent checkers b inputs
    → s ≡ packed (race_answer checkers b (length inputs)) → m ≡ race_lent checkers b inputs → (r ≡ s) × (l ≡ m)
race-inputs-unique b inputs r s l m p u q v = (one_answer p q, one_answer u v)

-- of `munchalep_contact_input` and `munchalep_race_input`
pub input-unique : (a : InputAnswer) (out r s v w : ℕ) → PutInput a out r v → PutInput a out s w → (r ≡ s) × (v ≡ w)
input-unique a out r s v w p q = (one_answer p.number q.number, one_answer p.lent q.lent)
