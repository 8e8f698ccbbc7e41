-- Ends passed to a window: what is still to be passed, one list after another, a list or what stands in for it, and loops over the points
-- of a mask in an order.
-- Assumes nothing.
use mathlib.Core.Path.{◌≡◌, refl, sym, ap, subst, ◌∙◌}
use mathlib.Core.Bool.{true}
use mathlib.Core.List.{List, [], ◌∷◌, ◌++◌, map, map-append}
use Prim.Native.Nat.{ℕ, ◌+◌, ◌<◌, ◌≤◌}
use native.Mathlib.Omega.{arith}
use lib.IntN.{ℤ}
use lib.ListN.{length, length-append, length-map}
use Rattle.ints.specs.Bits.{bit}
use Rattle.ints.specs.Lent.{written}
use Rattle.ints.proofs.Lent.{written-append}
use Rattle.position.specs.Step.{can_step}
use Rattle.rules.specs.Ends.{or_else}
use Rattle.rules.proofs.Lists.{Boards}
use Rattle.moves.specs.Bytes.{image, over, Took}
use Rattle.moves.specs.Order.{Next}
use Rattle.moves.specs.declared.window.Window.{Window}

-- ---- what is still to be passed

-- of the ends all, the first of which has the number start, es are still to be passed: from the number n and the window w on, that gives
-- what passing all gives from the start and the window w₀
pub record Remain (all : Boards) (w₀ : Window) (start : ℕ) (es : Boards) (w : Window) (n : ℕ) : Type 0 where
  pub same : w.out.ghost_name ≡ w₀.out.ghost_name
  pub from : w.from ≡ w₀.from
  pub number : n + length es ≡ start + length all
  pub lent : written 26 w.out.now w.from n (map image es) ≡ written 26 w₀.out.now w₀.from start (map image all)

pub remain-all : (all es : Boards) (w : Window) (start : ℕ) → es ≡ all → Remain all w start es w start
remain-all all es w start e = rw e (record { same = refl; from = refl; number = refl; lent = refl })

module _ {all : Boards} {w₀ : Window} {start : ℕ} where
  -- a part is passed
  pub remain-part : (es fs : Boards) {w w' : Window} {n r : ℕ} → Remain all w₀ start (es ++ fs) w n → Took es w n r w'
      → Remain all w₀ start fs w' r
  remain-part es fs {w} {w'} {n} {r} m t =
      let p = t.passed in
      let l = length-map es image in
      record {
        same = t.same ∙ m.same;
        from = t.from ∙ m.from;
        number = omega (arith, m.number, p.number, length-append es fs);
        lent =
            rw (p.lent, t.from, p.number, ← l) (sym (written-append 26 w.out.now w.from n (map image es) (map image fs)))
            ∙ ap (written 26 w.out.now w.from n) (sym (map-append image es fs)) ∙ m.lent;
      }

  -- its numbers are no higher than those of all
  pub remain-fits : (es fs : Boards) {w : Window} {n : ℕ} (top : ℕ) → Remain all w₀ start (es ++ fs) w n → start + length all < top
      → n + length es < top
  remain-fits es fs top m h = omega (arith, m.number, length-append es fs)

  -- all are passed
  pub remain-none : {w : Window} {n : ℕ} → Remain all w₀ start [] w n → Took all w₀ start n w
  unfolding written
  remain-none m = record { same = m.same; from = m.from; passed = record { number = omega (arith, m.number); lent = m.lent } }

  -- ---- a loop over the points of a mask in an order; g gives the ends of a point

  module _ (points : ℕ → List ℕ) (g : ℕ → Boards) {m : ℕ} {w : Window} {n : ℕ} (r : Remain all w₀ start (over g (points m)) w n) where
    -- those of the first point, and of the rest
    pub remain-first : {q m' : ℕ} → Next points m q m' → Remain all w₀ start (g q ++ over g (points m')) w n
    remain-first f = subst (λ (ps : List ℕ). Remain all w₀ start (over g ps) w n) f.parts r

    -- no point is left
    pub remain-over : points m ≡ [] → Took all w₀ start n w
    remain-over e = remain-none (subst (λ (ps : List ℕ). Remain all w₀ start (over g ps) w n) e r)

-- no ends of a list that is empty
pub none_passed : {es : Boards} {w : Window} {start r : ℕ} {w' : Window} → es ≡ [] → Took es w start r w' → Took [] w start start w'
none_passed {w = w} {start} {r} {w'} e t =
    let n : r ≡ start = omega (arith, t.passed.number, ap length e) in
    subst (λ (s : ℕ). Took [] w start s w') n (subst (λ (es : Boards). Took es w start r w') e t)

-- ---- lists

pub passed_none : (w : Window) (start : ℕ) → Took [] w start start w
unfolding written
passed_none w start = record { same = refl; from = refl; passed = record { number = omega arith; lent = refl } }

pub passed-append : {es fs : Boards} {w : Window} {start r : ℕ} {w' : Window} {s : ℕ} {w'' : Window}
    → Took es w start r w' → Took fs w' r s w'' → Took (es ++ fs) w start s w''
passed-append {es} {fs} {w} {start} p q =
    let m = remain-part es fs (remain-all (es ++ fs) (es ++ fs) w start refl) p in
    record {
      same = q.same ∙ m.same;
      from = q.from ∙ m.from;
      passed = record { number = q.passed.number ∙ m.number; lent = q.passed.lent ∙ m.lent };
    }

pub passed_is : {es fs : Boards} {w : Window} {start r : ℕ} {w' : Window} → es ≡ fs → Took es w start r w' → Took fs w start r w'
passed_is {w = w} {start} {r} {w'} e p = subst (λ (es : Boards). Took es w start r w') e p

-- ---- a list, or what stands in for it where it is empty

pub passed-some : (es fs : List (List ℤ)) {w : Window} {r : ℕ} {w' : Window} → Took es w 0 r w' → 0 < r → Took (or_else es fs) w 0 r w'
passed-some [] fs p h = let z : ⊥ = omega (arith, p.passed.number) in absurd z
passed-some (e ∷ es) fs p h = p

pub passed-else : (es fs : List (List ℤ)) {w : Window} {r : ℕ} {w' : Window} {s : ℕ} {w'' : Window}
    → Took es w 0 r w' → r ≤ 0 → Took fs w' 0 s w'' → Took (or_else es fs) w 0 s w''
unfolding written
passed-else [] fs {w} {w'' = w''} p h q = record {
  same = q.same ∙ p.same;
  from = q.from ∙ p.from;
  passed = rw (← p.passed.lent, ← p.from) q.passed;
}
passed-else (e ∷ es) fs p h q = let z : ⊥ = omega (arith, p.passed.number) in absurd z

-- ---- a loop over the points from which a die can be played

-- a loop over the points of a mask from which d can be played: g gives the ends of a point
pub record Turns (b : List ℤ) (d : ℕ) (g : ℕ → List (List ℤ)) (points : ℕ → List ℕ)
    (rest : ℕ) (w : Window) (n : ℕ) (fs : List (List ℤ)) (w₀ : Window) (start : ℕ) : Type 0 where
  pub can : (p : ℕ) → bit rest p ≡ true → can_step b p d ≡ true
  pub left : Remain fs w₀ start (over g (points rest)) w n

pub turns-start : {b : List ℤ} {d : ℕ} {g : ℕ → List (List ℤ)} {points : ℕ → List ℕ} {rest : ℕ} {w : Window} {fs : List (List ℤ)} {start : ℕ}
    → (m : ℕ) → rest ≡ m → ((p : ℕ) → bit m p ≡ true → can_step b p d ≡ true) → over g (points m) ≡ fs → Turns b d g points rest w start fs w start
turns-start {g = g} {points} {w = w} {fs} {start} m e can all =
    rw e record { can = can; left = remain-all fs (over g (points m)) w start all }

pub turns-end : {b : List ℤ} {d : ℕ} {g : ℕ → List (List ℤ)} {points : ℕ → List ℕ} {rest : ℕ} {w : Window} {n : ℕ} {fs : List (List ℤ)}
    {w₀ : Window} {start : ℕ} → Turns b d g points rest w n fs w₀ start → points rest ≡ [] → Took fs w₀ start n w
turns-end t e = remain-none (rw e at t.left)

module _ {b : List ℤ} {d : ℕ} {g : ℕ → List (List ℤ)} {points : ℕ → List ℕ} {rest : ℕ} {w : Window} {n : ℕ} {fs : List (List ℤ)}
    {w₀ : Window} {start q rest' : ℕ} (f : Next points rest q rest') (t : Turns b d g points rest w n fs w₀ start) where
  -- the ends of the first point come first
  first-left : Remain fs w₀ start (g q ++ over g (points rest')) w n
  first-left = remain-first points g t.left f

  pub turn-fits : n + length (g q) ≤ start + length fs
  turn-fits = omega (arith, first-left.number, length-append (g q) (over g (points rest')))

  pub turn-next : {r : ℕ} {w' : Window} → Took (g q) w n r w' → Turns b d g points rest' w' r fs w₀ start
  turn-next p = record { can = λ i e. t.can i (f.fewer i e); left = remain-part (g q) (over g (points rest')) first-left p }
