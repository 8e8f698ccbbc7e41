-- The steps of a double, one after another: what is found so far, as the code's places hold it, and what is left to find.
-- Assumes nothing.
use mathlib.Core.Path.{◌≡◌, refl, sym, ap, ◌∙◌}
use mathlib.Core.List.{List, [], ◌∷◌, ◌++◌, append_assoc, append-nil}
use Prim.Native.Nat.{ℕ, zero, suc, ◌+◌, ◌-◌, ◌*◌, ◌<◌}
use native.Mathlib.Omega.{arith}
use borrow.Author.Tests.{eq-eqb, ne_eqb}
use lib.IntN.{ℤ}
use lib.ListN.{length, set, length-append}
use Rattle.std.specs.Prelude.{None, Some}
use Rattle.ints.specs.Signed.{Small}
use Rattle.ints.proofs.Signed.{small-more}
use Rattle.position.specs.Step.{stepped}
use Rattle.position.proofs.StepCode.{small-stepped}
use Rattle.bg_move.specs.declared.Step.{Step}
use Rattle.bg_move.specs.Steps.{lost, point, told, double_steps}
use Rattle.bg_move.specs.Answers.{places, steps_value}
use Rattle.bg_move.proofs.Losses.{some-point, none-point}
use Rattle.bg_move.proofs.Places.{placed_more}

-- n steps are found, and the places hold them; those from the board c on follow
pub record Found (d : ℕ) (b e : List ℤ) (held : List Step) (c : List ℤ) (n : ℕ) : Type 0 where
  pub steps : List Step
  pub number : length steps ≡ n
  pub in-places : held ≡ places steps
  pub rest : steps ++ double_steps d (4 - n) c e ≡ double_steps d 4 b e
  pub small : Small (116 + 2 * n) c

pub nothing-found : (d : ℕ) (b e : List ℤ) → Small 116 b → Found d b e (places []) b 0
nothing-found d b e s = record { steps = []; number = refl; in-places = refl; rest = refl; small = s }

module _ (d : ℕ) (c e : List ℤ) where
  no_more : (k : ℕ) → lost c e 26 ≡ 0 → double_steps d k c e ≡ []
  unfolding double_steps
  no_more zero h = refl
  no_more (suc k) h = rw (eq-eqb (lost c e 26) 0 h)

  one_more : (k p : ℕ) → p ≡ lost c e 26 → 0 < p → double_steps d (suc k) c e ≡ told p d ∷ double_steps d k (stepped c p d) e
  unfolding double_steps
  one_more k p q h = rw (← q, ne_eqb p 0 (λ z. omega arith))

module _ (d : ℕ) (b e : List ℤ) (held : List Step) (c : List ℤ) (n : ℕ) (f : Found d b e held c n) where
  pub more-found : n < 4 → (p : ℕ) → Some p ≡ point (lost c e 26) → (t : Step) → t ≡ told p d → (a : List ℤ) → a ≡ stepped c p d
      → Found d b e (set held n t) a (n + 1)
  more-found h p q t r a w =
      let ts = f.steps in
      let here-lost = some-point (lost c e 26) p q in
      let here : 4 - n ≡ suc (4 - (n + 1)) = omega arith in
      record {
        steps = ts ++ told p d ∷ [];
        number = length-append ts (told p d ∷ []) ∙ ap (λ (m : ℕ). m + 1) f.number;
        in-places = rw (f.in-places, r) (placed_more ts (told p d) n f.number h);
        rest =
            rw w (append_assoc ts (told p d ∷ []) (double_steps d (4 - (n + 1)) (stepped c p d) e)
            ∙ ap (λ (l : List Step). ts ++ l) (sym (ap (λ (k : ℕ). double_steps d k c e) here ∙ one_more d c e (4 - (n + 1)) p here-lost.1 here-lost.0))
            ∙ f.rest);
        small =
            rw w (small-more (116 + 2 * n + 2) (116 + 2 * (n + 1)) (stepped c p d) (omega arith) (small-stepped (116 + 2 * n) c p d f.small));
      }

  -- nothing is left to find
  pub all_found : double_steps d (4 - n) c e ≡ [] → record { count = n; steps = held } ≡ steps_value (double_steps d 4 b e)
  unfolding steps_value
  all_found h =
      let whole : double_steps d 4 b e ≡ f.steps = sym f.rest ∙ ap (λ (l : List Step). f.steps ++ l) h ∙ append-nil f.steps in
      rw whole (λ k. record { count = sym f.number k; steps = f.in-places k })

  pub none_left : None ≡ point (lost c e 26) → record { count = n; steps = held } ≡ steps_value (double_steps d 4 b e)
  none_left h = all_found (no_more d c e (4 - n) (none-point (lost c e 26) h))

  pub four-found : n ≡ 4 → record { count = n; steps = held } ≡ steps_value (double_steps d 4 b e)
  unfolding double_steps
  four-found h = all_found (rw h refl)
