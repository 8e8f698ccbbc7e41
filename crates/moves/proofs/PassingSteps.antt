-- Single ends passed through a window: one end, the ends after a step from each point of a mask in an order, and ends of which
-- none is seen.
-- Assumes nothing.
use mathlib.Core.Path.{◌≡◌, refl, sym, ◌∙◌}
use mathlib.Core.List.{List, [], ◌∷◌, map}
use Prim.Native.Nat.{ℕ, ◌+◌, ◌-◌, ◌*◌, ◌/◌, ◌≤◌, ◌<◌}
use native.Mathlib.Omega.{arith}
use lib.IntN.{ℤ}
use lib.ListN.{length, length-map}
use lib.Seq.{sets}
use Rattle.ints.specs.Lent.{store, written}
use Rattle.ints.proofs.Lent.{store_in}
use Rattle.position.specs.Step.{stepped}
use Rattle.moves.specs.Bytes.{image, steps, Stored, Took}
use Rattle.moves.specs.Order.{Next}
use Rattle.moves.specs.declared.window.Window.{Window}
use Rattle.moves.proofs.Passing.{Remain, remain-part, remain-none}

-- ---- one end

-- an end written in its slot is stored
pub slot-stored : (o new : List ℕ) (from n : ℕ) (e : List ℕ) → (from ≤ n) × (n - from < length o / 26) → new ≡ sets o ((n - from) * 26) e
    → new ≡ store 26 o from n e
slot-stored o new from n e s h = h ∙ sym (store_in 26 o from n e s.0 s.1)

pub passed-one : {b : List ℤ} {w w' : Window} {start : ℕ} → Stored (image b) w start w' → Took (b ∷ []) w start (start + 1) w'
unfolding written
passed-one s = record { same = s.same; from = s.from; passed = record { number = omega arith; lent = s.lent } }

-- ---- the ends after a step from each point of a mask

module _ (points : ℕ → List ℕ) (b : List ℤ) (die m : ℕ) (w₀ : Window) (start : ℕ) where
  -- the steps from the points of `rest` are still to be passed, of those from the points of m
  abbrev pub Left : Window → ℕ → ℕ → Type 0
  Left w n rest = Remain (steps b die (points m)) w₀ start (steps b die (points rest)) w n

  -- a turn passes the end from the first point
  pub left_less : {w w' : Window} {n rest q rest' : ℕ} → Next points rest q rest' → Stored (image (stepped b q die)) w n w'
      → Left w n rest → Left w' (n + 1) rest'
  left_less {w} {w'} {n} {rest} {q} {rest'} f e v =
      let r : Remain (steps b die (points m)) w₀ start (steps b die (q ∷ points rest')) w n = rw f.parts at v in
      remain-part (stepped b q die ∷ []) (steps b die (points rest')) r (passed-one e)

  -- a step has one end
  pub left-number : (w : Window) (n rest : ℕ) → Left w n rest → n + length (points rest) ≡ start + length (points m)
  left-number w n rest v =
      omega (arith, v.number, length-map (points rest) (λ p. stepped b p die), length-map (points m) (λ p. stepped b p die))

  pub left-none : {w : Window} {n rest : ℕ} → points rest ≡ [] → Left w n rest → Took (steps b die (points m)) w₀ start n w
  left-none e v = remain-none (rw e at v)

-- what a window v took over the memory that w lent to it, w took
pub took-lent : {es : List (List ℤ)} {w w' v v' : Window} {start r : ℕ} → v.out.now ≡ w.out.now → v.from ≡ w.from → Took es v start r v'
    → w'.out.ghost_name ≡ w.out.ghost_name → w'.from ≡ w.from → w'.out.now ≡ v'.out.now → Took es w start r w'
took-lent {es} {start = start} {r} o f t g k n = record { same = g; from = k; passed = rw (← o, ← f, n) t.passed }

-- ---- ends outside the window

-- where no ends of their number change anything, they are passed by counting them
pub passed_over : (b : List ℤ) (die : ℕ) (ps : List ℕ) (w : Window) (start n : ℕ) → n ≡ length ps
    → ((es : List (List ℕ)) → start + n ≡ start + length es → written 26 w.out.now w.from start es ≡ w.out.now) → Took (steps b die ps) w start (start + n) w
passed_over b die ps w start n e h =
    let s = length-map ps (λ p. stepped b p die) in
    record {
      same = refl;
      from = refl;
      passed = record { number = omega arith; lent = sym (h (map image (steps b die ps)) (omega (arith, length-map (steps b die ps) image))) };
    }
