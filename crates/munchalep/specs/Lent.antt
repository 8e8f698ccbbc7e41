-- A board, a key or an input that is answered into lent memory (document 01, "Refusal numbers": lent memory stays where a call is refused).
use Rattle.std.specs.Prelude.{◌≡◌, cond, List, ℕ, eqb, ℤ}
use Rattle.std.specs.Float.{binary32}
use Rattle.std.specs.Float.Ieee.{to_bits}
use Rattle.position.specs.Answers.{BoardAnswer}
use Rattle.key.specs.Key.{KeyAnswer}
use Rattle.inputs.specs.Answers.{InputAnswer, given, not}

-- what the out parameter holds afterwards: what is answered, or what it held where the answer is a refusal
unfoldable pub after : {A : Type 0} → ℕ → List A → List A → List A
after refused answered out = cond (eqb refused 0) answered out

-- the number r and the out parameter after an answer: the refusal's number, 0 for none and no value above it, and every lent byte
pub record Put (a : BoardAnswer) (out : List ℤ) (r : ℕ) (out' : List ℤ) : Type 0 where
  pub number : r ≡ a.refused
  pub lent : out' ≡ after a.refused a.board out

-- the same where a key is answered
pub record PutKey (a : KeyAnswer) (out : List ℕ) (r : ℕ) (out' : List ℕ) : Type 0 where
  pub number : r ≡ a.refused
  pub lent : out' ≡ after a.refused a.key out

-- "Inputs", one input: the number of its answer, 0 where there is a value, and the bits of the float that the out parameter holds afterwards
abbrev pub input_number : InputAnswer → ℕ
input_number (given v) = 0
input_number (not k) = k

abbrev pub input_after : InputAnswer → ℕ → ℕ
input_after (given v) out = to_bits binary32 v
input_after (not k) out = out

-- the same where one input is answered
pub record PutInput (a : InputAnswer) (out r out' : ℕ) : Type 0 where
  pub number : r ≡ input_number a
  pub lent : out' ≡ input_after a out
