-- Two answers that meet one promise are equal, for each entry.
use mathlib.Core.Path.{◌≡◌}
use mathlib.Core.Bool.{Bool}
use Prim.Native.Nat.{ℕ}
use lib.ListN.{get_or}
use Rattle.std.proofs.Common.{Result}
use Rattle.ints.specs.Refusals.{told}
use Rattle.ints.specs.declared.refusal.Refusal.{Refusal}
use Rattle.ints.proofs.Tests.{one_answer}
use Rattle.ints.proofs.Refusals.{told-apart}
use Rattle.dice.specs.declared.Dice.{Dice}
use Rattle.dice.specs.Rolls.{rolls, pairs}
use Rattle.dice.specs.Dice.{is_die, dice_of, dice_byte_of, dice_of_byte}

pub new-unique : (d1 d2 : ℕ) (r s : Result Dice Refusal) → r ≡ dice_of d1 d2 → s ≡ dice_of d1 d2 → r ≡ s
new-unique d1 d2 r s p q = one_answer p q

pub dice-byte-unique : (d1 d2 : ℕ) (r s : Result ℕ Refusal) → told r ≡ dice_byte_of d1 d2 → told s ≡ dice_byte_of d1 d2 → r ≡ s
dice-byte-unique d1 d2 r s p q = told-apart r s (one_answer p q)

pub dice-of-byte-unique : (b : ℕ) (r s : Result Dice Refusal) → r ≡ dice_of_byte b → s ≡ dice_of_byte b → r ≡ s
dice-of-byte-unique b r s p q = one_answer p q

pub roll-unique : (i r s : ℕ) → r ≡ get_or rolls i 0 → s ≡ get_or rolls i 0 → r ≡ s
roll-unique i r s p q = one_answer p q

pub pair-unique : (n r s : ℕ) → r ≡ get_or pairs n 0 → s ≡ get_or pairs n 0 → r ≡ s
pair-unique n r s p q = one_answer p q

pub is-die-unique : (d : ℕ) (r s : Bool) → r ≡ is_die d → s ≡ is_die d → r ≡ s
is-die-unique d r s p q = one_answer p q
