-- Text put into lent memory piece by piece: the pieces one after the other are the whole.
-- Assumes nothing.
use mathlib.Core.Path.{◌≡◌, refl, ap, ◌∙◌}
use mathlib.Core.List.{List, [], ◌∷◌, ◌++◌}
use Prim.Native.Nat.{ℕ, zero, suc, ◌+◌, ◌-◌, ◌*◌, ◌/◌, ◌%◌, ◌≤◌, ◌<◌}
use native.Mathlib.Numerals.{add-one, unary_clauses}
use native.Mathlib.Omega.{arith}
use borrow.Author.Tests.{lt-ltb, le-ltb}
use lib.Dec.{ltb}
use lib.ListN.{length, get_or, set, take, length-append}
use lib.Seq.{sets, length-sets, take-suc}
use Rattle.std.proofs.lemmas.Grind.{common_steps}
use Rattle.ints.proofs.Tests.{by_cond}
use Rattle.card_text.specs.Text.{hex_byte, hex, digits}
use Rattle.card_text.specs.Wrote.{Wrote}

pub wrote_none : (out : List ℕ) (from : ℕ) → Wrote out from [] from out
wrote_none out from = record { next = omega arith; lent = refl }

sets-append : (out : List ℕ) (from to : ℕ) (vs ws : List ℕ) → to ≡ from + length vs → sets (sets out from vs) to ws ≡ sets out from (vs ++ ws)
sets-append out from to [] ws e = let q : to ≡ from = omega (arith, e) in rw q
sets-append out from to (v ∷ vs) ws e = sets-append (set out from v) (suc from) to vs ws (omega (arith, e))

pub wrote-more : {out mid new : List ℕ} {from to end : ℕ} (vs ws : List ℕ) → Wrote out from vs to mid → Wrote mid to ws end new → Wrote out from (vs ++ ws) end new
wrote-more {out} {from = from} {to} vs ws p q = record {
  next = omega (arith, p.next, q.next, length-append vs ws);
  lent = q.lent ∙ ap (λ l. sets l to ws) p.lent ∙ sets-append out from to vs ws p.next;
}

pub wrote-length : {out new : List ℕ} {from to : ℕ} {vs : List ℕ} → Wrote out from vs to new → length new ≡ length out
wrote-length {out} {from = from} {vs = vs} p = ap length p.lent ∙ length-sets out from vs

-- ---- a key in hex, byte by byte

hex-append : (ks ls : List ℕ) → hex (ks ++ ls) ≡ hex ks ++ hex ls
unfolding hex
hex-append [] ls = refl
hex-append (k ∷ ks) ls = ap (λ r. hex_byte k ++ r) (hex-append ks ls)

pub hex_none : hex [] ≡ []
unfolding hex
hex_none = refl

pub hex_next : (key : List ℕ) (i : ℕ) → i < length key → hex (take (i + 1) key) ≡ hex (take i key) ++ hex_byte (get_or key i 0)
unfolding hex
hex_next key i h = rw (add-one, take-suc key i 0 h, hex-append (take i key) (get_or key i 0 ∷ [])) refl

pub ruleset hex_steps = (common_steps, hex_none, hex_next)

-- ---- a decimal number

pub few-digits : (p n : ℕ) → length (digits p n) ≤ p
unfolding digits
few-digits zero n = omega arith
few-digits (suc p) n =
    by_cond (ltb n 10) ((48 + n) ∷ []) (digits p (n / 10) ++ ((48 + n % 10) ∷ [])) (λ l. length l ≤ suc p) (λ e. omega arith)
    (λ e. omega (arith, few-digits p (n / 10), length-append (digits p (n / 10)) ((48 + n % 10) ∷ [])))

pub digits_none : (p n : ℕ) → p ≡ 0 → digits p n ≡ []
unfolding digits
digits_none p n e = rw e refl

pub digits_one : (p n : ℕ) → 0 < p → n < 10 → digits p n ≡ (48 + n) ∷ []
unfolding digits
digits_one zero n h k = let r : ⊥ = omega arith in absurd r
digits_one (suc p) n h k = rw (lt-ltb n 10 k) refl

pub digits_more : (p n : ℕ) → 0 < p → 10 ≤ n → digits p n ≡ digits (p - 1) (n / 10) ++ ((48 + n % 10) ∷ [])
unfolding digits
digits_more zero n h k = let r : ⊥ = omega arith in absurd r
digits_more (suc p) n h k = rw (le-ltb n 10 k) (simp unary_clauses)

pub ruleset digit_steps = (common_steps, digits_none, digits_one, digits_more)

-- ---- lengths

pub length-hex : (ks : List ℕ) → length (hex ks) ≡ 2 * length ks
unfolding hex
length-hex [] = refl
length-hex (k ∷ ks) = omega (arith, length-hex ks)
