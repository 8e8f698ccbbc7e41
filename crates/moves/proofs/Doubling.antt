-- The ends of a double, as the generator meets them: a step from each origin of a mask, checkers that enter, fewer steps where not all
-- can be made. Assumes nothing.
use mathlib.Core.Path.{◌≡◌, refl, sym, ap, ◌∙◌}
use mathlib.Core.Bool.{true, false}
use mathlib.Core.List.{List, [], ◌∷◌, append-nil}
use Prim.Native.Nat.{ℕ, zero, suc, ◌+◌, ◌-◌, ◌^◌, ◌≤◌, ◌<◌}
use native.Mathlib.Omega.{arith}
use lib.IntN.{ℤ}
use lib.Dec.{ltb}
use lib.ListN.{length, length-map}
use Rattle.ints.specs.Bits.{bit}
use Rattle.ints.specs.Masks.{those}
use Rattle.ints.proofs.Tests.{and_right}
use Rattle.position.specs.Board.{xs}
use Rattle.position.specs.Step.{Good, can_step, stepped}
use Rattle.position.proofs.Steps.{can-none, can-bar}
use Rattle.rules.specs.Ends.{up, after, only, or_else, doubles, most}
use Rattle.dice.specs.Dice.{Die}
use Rattle.rules.proofs.Lists.{Boards}
use Rattle.rules.proofs.Bound.{doubles-at-most}
use Rattle.moves.specs.Bytes.{steps, over}
use Rattle.moves.specs.Points.{Masked, origins_mask, after_mask}
use Rattle.moves.proofs.Origins.{origins-are, up-origins, after-masked, over-only}

-- ---- a step from each origin

-- the ends of k steps by d, the first from p
abbrev pub branch : List ℤ → ℕ → ℕ → ℕ → Boards
branch b d k p = doubles d (k - 1) p (stepped b p d)

-- a board with its masks, a die, and the mask of its origins up to top
pub record Level (b : List ℤ) (x free d top all : ℕ) : Type 0 where
  pub good : Good b
  pub masked : Masked b x free
  pub x-small : x < 2 ^ 25
  pub free-small : free < 2 ^ 25
  pub die : Die d
  pub top_small : top < 25
  pub origins : all ≡ origins_mask x free d top

module _ {b : List ℤ} {x free d top all : ℕ} (l : Level b x free d top all) where
  -- its origins can be played
  pub level-can : (p : ℕ) → bit all p ≡ true → can_step b p d ≡ true
  level-can p h =
      and_right (ltb p (top + 1)) (can_step b p d)
      (sym (origins-are b x free d l.good l.masked l.x-small l.free-small l.die top l.top_small p) ∙ rw (← l.origins) h)

  -- the masks after a step
  pub level-masked : (p : ℕ) → can_step b p d ≡ true → Masked (stepped b p d) (after_mask b x p d) free
  level-masked p c = after-masked b x free d l.good l.masked l.x-small l.free-small l.die p c

  -- its ends, origin by origin
  pub level-over : (k : ℕ) → 0 < k → over (branch b d k) (those 25 0 (bit all)) ≡ doubles d k top b
  unfolding doubles
  level-over zero h = absurd (omega arith)
  level-over (suc k) h =
      let e : suc k - 1 ≡ k = omega arith in
      rw l.origins
      (ap (λ (j : ℕ). over (λ p. doubles d j p (stepped b p d)) (those 25 0 (bit (origins_mask x free d top)))) e
      ∙ sym (up-origins b x free d l.good l.masked l.x-small l.free-small l.die top l.top_small (doubles d k)))

  -- the last step
  pub level-last : (k : ℕ) → k ≡ 1 → steps b d (those 25 0 (bit all)) ≡ doubles d k top b
  unfolding doubles
  level-last k e = sym (over-only b d (those 25 0 (bit all))) ∙ rw e (level-over 1 (omega arith))

  pub level-number : (k : ℕ) → k ≡ 1 → length (those 25 0 (bit all)) ≡ length (doubles d k top b)
  level-number k e = sym (length-map (those 25 0 (bit all)) (λ p. stepped b p d)) ∙ ap length (level-last k e)

-- ---- steps that cannot be made

after_none : (b : List ℤ) (d : ℕ) (k : List ℤ → Boards) (p : ℕ) → can_step b p d ≡ false → after b d k p ≡ []
unfolding after
after_none b d k p e = rw e

after-made : (b : List ℤ) (d : ℕ) (k : List ℤ → Boards) (p : ℕ) → can_step b p d ≡ true → after b d k p ≡ k (stepped b p d)
unfolding after
after-made b d k p e = rw e

up_none : (n : ℕ) (f : ℕ → Boards) → ((p : ℕ) → p ≤ n → f p ≡ []) → up n f ≡ []
up_none zero f h = refl
up_none (suc n) f h = rw (up_none n f (λ p l. h p (omega arith)), h (suc n) (omega arith))

-- ---- x's bar empty

module _ (d : ℕ) (b : List ℤ) (e : xs b 25 ≡ 0) where
  -- no checker enters
  doubles-points : (k : ℕ) → doubles d k 25 b ≡ doubles d k 24 b
  unfolding doubles
  doubles-points zero = refl
  doubles-points (suc k) =
      rw (after_none b d (doubles d k 25) 25 (can-none b 25 d e)) (append-nil (up 24 (λ p. after b d (doubles d k p) p)))

  pub length-points : (k : ℕ) → k ≤ 4 → length (doubles d k 24 b) ≤ 17550
  length-points k h = rw (doubles-points k) at (doubles-at-most d k b h)

  -- k steps where they can be made, else at most k - 1
  pub most-made : (k : ℕ) → 0 < k → 0 < length (doubles d k 24 b) → most d b k ≡ doubles d k 24 b
  unfolding most
  most-made zero h l = absurd (omega arith)
  most-made (suc k) h l = rw (doubles-points (suc k)) (go (doubles d (suc k) 24 b) l)
    where
      go : (es : Boards) → 0 < length es → or_else es (most d b k) ≡ es
      go [] l = absurd (omega arith)
      go (c ∷ es) l = refl

  pub most-fewer : (k : ℕ) → 0 < k → doubles d k 24 b ≡ [] → most d b k ≡ most d b (k - 1)
  unfolding most
  most-fewer zero h n = absurd (omega arith)
  most-fewer (suc k) h n = let e : suc k - 1 ≡ k = omega arith in rw (e, doubles-points (suc k), n)

pub length_none : (es : Boards) → length es ≡ 0 → es ≡ []
length_none [] e = refl
length_none (c ∷ es) e = absurd (omega arith)

-- ---- x on the bar

module _ (d : ℕ) (b : List ℤ) (h : 0 < xs b 25) where
  -- the bar is the only origin
  doubles-bar : (k : ℕ) → doubles d (suc k) 25 b ≡ after b d (doubles d k 25) 25
  unfolding doubles
  doubles-bar k =
      rw (up_none 24 (λ p. after b d (doubles d k p) p) (λ p l. after_none b d (doubles d k p) p (can-bar b p d (λ q. omega arith) h)))

  -- a checker that can enter does
  most-enter : can_step b 25 d ≡ true → (k : ℕ) → most d b (suc k) ≡ most d (stepped b 25 d) k
  unfolding most doubles
  most-enter t zero = rw (doubles-bar 0, after-made b d (doubles d 0 25) 25 t)
  most-enter t (suc k) =
      rw (doubles-bar (suc k), after-made b d (doubles d (suc k) 25) 25 t)
      (ap (or_else (doubles d (suc k) 25 (stepped b 25 d))) (most-enter t k))

  pub most-entered : can_step b 25 d ≡ true → (k : ℕ) → 0 < k → most d b k ≡ most d (stepped b 25 d) (k - 1)
  most-entered t zero l = absurd (omega arith)
  most-entered t (suc k) l = let e : suc k - 1 ≡ k = omega arith in rw e (most-enter t k)

  -- where none can, nothing moves
  pub most-blocked : can_step b 25 d ≡ false → (k : ℕ) → most d b k ≡ only b
  unfolding most
  most-blocked t zero = refl
  most-blocked t (suc k) = rw (doubles-bar k, after_none b d (doubles d k 25) 25 t) (most-blocked t k)
