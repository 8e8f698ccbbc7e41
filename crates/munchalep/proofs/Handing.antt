-- An answer handed on: what is put of an answer is put of whatever it equals; and what `put` and the tests of a refusal say of an
-- answer is what the C interface promises.
use Rattle.std.proofs.Common.{◌≡◌, refl, ap, ◌∙◌, List, ℕ, ◌+◌, ◌*◌, ℤ, Result, Ok, Err, ne_eqb}
use Rattle.std.specs.Prelude.{⊤}
use Rattle.std.specs.Result.{result_unwrap_or}
use native.Mathlib.Omega.{arith}
use Rattle.ints.specs.Answer.{packed}
use Rattle.ints.specs.Refusals.{number, refusal_in}
use Rattle.ints.specs.declared.refusal.Refusal.{Refusal}
use Rattle.ints.proofs.Refusals.{number-pos}
use Rattle.position.specs.Answers.{BoardAnswer, board_told}
use Rattle.card.specs.Answers.{PositionAnswer}
use Rattle.key.specs.Key.{KeyAnswer, key_told}
use Rattle.inputs.specs.Answers.{InputAnswer, filled_told}
use Rattle.munchalep.specs.Lent.{after, Put, PutKey, input_number, input_after, PutInput}
use Rattle.munchalep.specs.LentCard.{PutPosition}

pub handed : {a b : BoardAnswer} {out out' : List ℤ} {r : ℕ} → Put a out r out' → a ≡ b → Put b out r out'
handed {a} {b} {out} p e = record {
  number = p.number ∙ ap (λ (x : BoardAnswer). x.refused) e;
  lent = p.lent ∙ ap (λ (x : BoardAnswer). after x.refused x.board out) e;
}

pub handed-key : {a b : KeyAnswer} {out out' : List ℕ} {r : ℕ} → PutKey a out r out' → a ≡ b → PutKey b out r out'
handed-key {a} {b} {out} p e = record {
  number = p.number ∙ ap (λ (x : KeyAnswer). x.refused) e;
  lent = p.lent ∙ ap (λ (x : KeyAnswer). after x.refused x.key out) e;
}

pub handed-input : {a b : InputAnswer} {out out' r : ℕ} → PutInput a out r out' → a ≡ b → PutInput b out r out'
handed-input {a} {b} {out} p e = record {
  number = p.number ∙ ap input_number e;
  lent = p.lent ∙ ap (λ (x : InputAnswer). input_after x out) e;
}

pub handed-position : {a b : PositionAnswer} {out out' : List ℤ} {r : ℕ} → PutPosition a out r out' → a ≡ b → PutPosition b out r out'
handed-position {a} {b} {out} p e = record {
  number = p.number ∙ ap (λ (x : PositionAnswer). x.refused + 256 * x.at) e;
  lent = p.lent ∙ ap (λ (x : PositionAnswer). after x.refused x.board out) e;
}

-- a refusal leaves what is lent
pub stays : {A : Type 0} (why : Refusal) (answered out : List A) → out ≡ after (number why) answered out
unfolding after
stays why answered out = rw (ne_eqb (number why) 0 (λ e. omega (arith, e, number-pos why)))

pub goes : {A : Type 0} (answered out : List A) → answered ≡ after 0 answered out
unfolding after
goes answered out = refl

-- what `put` says of a board and of a key
pub board-put : (a : Result (List ℤ) Refusal) {out out' : List ℤ} {r : ℕ} → r ≡ refusal_in a → out' ≡ result_unwrap_or a out → Put (board_told a) out r out'
board-put (Ok b) {out} e f = record { number = e; lent = f ∙ goes b out }
board-put (Err why) {out} e f = record { number = e; lent = f ∙ stays why _ out }

pub key-put : (a : Result (List ℕ) Refusal) {out out' : List ℕ} {r : ℕ} → r ≡ refusal_in a → out' ≡ result_unwrap_or a out → PutKey (key_told a) out r out'
key-put (Ok k) {out} e f = record { number = e; lent = f ∙ goes k out }
key-put (Err why) {out} e f = record { number = e; lent = f ∙ stays why _ out }

-- what the test of a refusal says of filling
pub filled-number : (a : Result ⊤ Refusal) → refusal_in a ≡ packed (filled_told a)
filled-number (Ok t) = refl
filled-number (Err why) = omega arith
