-- A step as the machine makes it: entries stay small, so that each sum fits and the stored board is the definition's.
-- Assumes nothing.
use mathlib.Core.Path.{◌≡◌, sym, ap, ◌∙◌}
use mathlib.Core.List.{List}
use Prim.Native.Nat.{ℕ, ◌+◌, ◌-◌, ◌≤◌, ◌<◌}
use native.Mathlib.Decide.{ℕ_discrete, dec_lt}
use native.Mathlib.Omega.{arith}
use borrow.Author.Tests.{eq-eqb, ne_eqb, lt-ltb, le-ltb}
use lib.IntN.{ℤ, pos, suc_ℤ, pred_ℤ, ◌+ℤ◌, ◌-ℤ◌}
use lib.ListN.{set}
use lib.Seq.{get_or-set_other}
use mir.Syntax.{w8}
use mir.Val.{SFits, of_z}
use Rattle.ints.specs.Signed.{neg_part, Small}
use Rattle.ints.proofs.Signed.{held, mag_pred, mag_suc, small-set, small-more, pred_fits, pred-held, suc-fits, suc-held, lone-yes, lone-no}
use Rattle.position.specs.Board.{entry, os}
use Rattle.position.specs.Step.{lifted, landed, stepped}

-- ---- entries stay small

module _ (k : ℕ) (b : List ℤ) (s : Small k b) where
  pub small-lifted : (p : ℕ) → Small (k + 1) (lifted b p)
  unfolding lifted
  small-lifted p =
      small-set (k + 1) b p (pred_ℤ (entry b p)) (small-more k (k + 1) b (omega arith) s) (omega (arith, mag_pred (entry b p), s p))

  pub small_one : (t : ℕ) → 0 < k → Small k (set b t (pos 1))
  small_one t h = small-set k b t (pos 1) s (omega arith)

pub small-landed : (k : ℕ) (b : List ℤ) (t : ℕ) → 0 < k → Small k b → Small (k + 1) (landed b t)
unfolding landed
small-landed k b t h s = elim (ℕ_discrete (os b t) 1) [
  | yes e ↦ rw (eq-eqb (os b t) 1 e) (small-lifted k (set b t (pos 1)) (small_one k b s t h) 0)
  | no n ↦
      rw (ne_eqb (os b t) 1 n)
      (small-set (k + 1) b t (suc_ℤ (entry b t)) (small-more k (k + 1) b (omega arith) s) (omega (arith, mag_suc (entry b t), s t)))
]

pub small-stepped : (k : ℕ) (b : List ℤ) (p d : ℕ) → Small k b → Small (k + 2) (stepped b p d)
unfolding stepped
small-stepped k b p d s =
    let l = small-lifted k b s p in
    elim (dec_lt d p) [
      | yes h ↦
          rw (lt-ltb d p h)
          (small-more (k + 1 + 1) (k + 2) (landed (lifted b p) (p - d)) (omega arith) (small-landed (k + 1) (lifted b p) (p - d) (omega arith) l))
      | no n ↦ rw (le-ltb d p (omega arith)) (small-more (k + 1) (k + 2) (lifted b p) (omega arith) l)
    ]

-- ---- a step as stores

pub landed-hit : (b : List ℤ) (t : ℕ) → os b t ≡ 1 → lifted (set b t (pos 1)) 0 ≡ landed b t
unfolding landed
landed-hit b t e = rw (eq-eqb (os b t) 1 e)

pub landed-more : (b : List ℤ) (t : ℕ) → (os b t ≡ 1 → ⊥) → set b t (suc_ℤ (entry b t)) ≡ landed b t
unfolding landed
landed-more b t n = rw (ne_eqb (os b t) 1 n)

pub stepped-on : (b : List ℤ) (p d : ℕ) → d < p → landed (lifted b p) (p - d) ≡ stepped b p d
unfolding stepped
stepped-on b p d h = rw (lt-ltb d p h)

pub stepped-off : (b : List ℤ) (p d : ℕ) → p ≤ d → lifted b p ≡ stepped b p d
unfolding stepped
stepped-off b p d h = rw (le-ltb d p h)

-- no store reads an entry that another of them changed
module _ (b : List ℤ) (p d : ℕ) (lo : 0 < d) (h : d < p) where
  other : (i : ℕ) → i < p → entry (lifted b p) i ≡ entry b i
  unfolding lifted
  other i l = get_or-set_other b p i (pred_ℤ (entry b p)) (pos 0) (λ e. omega arith)

  pub stepped-hit : os b (p - d) ≡ 1 → set (set (lifted b p) (p - d) (pos 1)) 0 (pred_ℤ (entry b 0)) ≡ stepped b p d
  unfolding lifted
  stepped-hit e =
      let c = set (lifted b p) (p - d) (pos 1) in
      let z : entry c 0 ≡ entry b 0 = get_or-set_other (lifted b p) (p - d) 0 (pos 1) (pos 0) (λ q. omega arith) ∙ other 0 (omega arith) in
      ap (λ (y : ℤ). set c 0 (pred_ℤ y)) (sym z)
      ∙ landed-hit (lifted b p) (p - d) (ap neg_part (other (p - d) (omega arith)) ∙ e) ∙ stepped-on b p d h

  pub stepped-more : (os b (p - d) ≡ 1 → ⊥) → set (lifted b p) (p - d) (suc_ℤ (entry b (p - d))) ≡ stepped b p d
  stepped-more n =
      let z = other (p - d) (omega arith) in
      ap (λ (y : ℤ). set (lifted b p) (p - d) (suc_ℤ y)) (sym z)
      ∙ landed-more (lifted b p) (p - d) (λ e. n (sym (ap neg_part z) ∙ e)) ∙ stepped-on b p d h

-- ---- what the code stores

-- one less at p, as `b[p] -= 1` makes it
abbrev pub lift : List ℤ → ℕ → List ℤ
lift b p = set b p (held w8 (held w8 (entry b p) -ℤ pos 1))

module _ (b : List ℤ) (p : ℕ) (s : Small 126 b) where
  pub lift-fits : SFits w8 (held w8 (entry b p) -ℤ pos 1)
  lift-fits = pred_fits w8 (entry b p) (omega (arith, s p))

  pub lift-is : lift b p ≡ lifted b p
  unfolding lifted
  lift-is = ap (set b p) (pred-held w8 (entry b p) (omega (arith, s p)))

  pub more-fits : SFits w8 (held w8 (entry b p) +ℤ pos 1)
  more-fits = suc-fits w8 (entry b p) (omega (arith, s p))

  -- one x more on p, in place of a lone o or beside none
  pub land-hit : of_z w8 (entry b p) ≡ 255 → lift (set b p (pos 1)) 0 ≡ landed b p
  unfolding lifted
  land-hit e =
      let t = small_one 126 b s p (omega arith) in
      ap (set (set b p (pos 1)) 0) (pred-held w8 (entry (set b p (pos 1)) 0) (omega (arith, t 0)))
      ∙ landed-hit b p (ap neg_part (lone-yes w8 (entry b p) (omega (arith, s p)) (omega arith) e))

  pub land-more : (of_z w8 (entry b p) ≡ 255 → ⊥) → set b p (held w8 (held w8 (entry b p) +ℤ pos 1)) ≡ landed b p
  land-more n =
      ap (set b p) (suc-held w8 (entry b p) (omega (arith, s p)))
      ∙ landed-more b p (λ o. lone-no w8 (entry b p) (omega (arith, s p)) n o)
