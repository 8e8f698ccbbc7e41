-- The place of a board in a list: where it stands, that boards that stand there have places of their own, and that the side switch keeps
-- places. So a number names one legal end. Assumes nothing.
use mathlib.Core.Path.{◌≡◌, refl, sym, ap, subst, ◌∙◌}
use mathlib.Core.Bool.{Bool, true, false, cond}
use mathlib.Core.List.{List, [], ◌∷◌, map}
use mathlib.Core.Logic.{◌≢◌, ◌↔◌, inl, inr}
use Prim.Native.Nat.{ℕ, zero, suc, ◌+◌, ◌≤◌, ◌<◌}
use native.Mathlib.Omega.{arith}
use lib.IntN.{ℤ}
use lib.ListN.{length, get_or}
use Rattle.dice.specs.Dice.{Die}
use Rattle.position.specs.Board.{Accepted, switched}
use Rattle.position.proofs.SideSwitch.{switched-same}
use Rattle.rules.specs.Ends.{same_board, ends_of, switched_ends_of, In, Once}
use Rattle.rules.specs.Plays.{LegalEnd}
use Rattle.rules.proofs.Accepted.{end-accepted}
use Rattle.rules.proofs.Exact.{accepted-exact}
use Rattle.rules.proofs.Lists.{Boards, same_board-is, same_board-self}
use Rattle.rules.proofs.Switched.{switched-exact, once-switched}
use Rattle.moves.specs.Answers.{ends_count}
use Rattle.end_number.specs.Number.{place}

-- at the head, and past it
pub place_here : (e c : List ℤ) (l : Boards) → e ≡ c → place e (c ∷ l) ≡ 0
unfolding place
place_here e c l q = rw (← q, same_board-self e)

pub place-there : (e c : List ℤ) (l : Boards) → e ≢ c → place e (c ∷ l) ≡ suc (place e l)
unfolding place
place-there e c l n = go (same_board e c) refl
  where
    go : (t : Bool) → same_board e c ≡ t → cond t 0 (suc (place e l)) ≡ suc (place e l)
    go true q = absurd (n (same_board-is e c q))
    go false q = refl

-- by the test at the head
by-head : (e c : List ℤ) (l : Boards) (P : ℕ → Type 0) → (e ≡ c → P 0) → ((e ≡ c → ⊥) → P (suc (place e l))) → P (place e (c ∷ l))
unfolding place
by-head e c l P f g = go (same_board e c) refl
  where
    go : (t : Bool) → same_board e c ≡ t → P (cond t 0 (suc (place e l)))
    go true q = f (same_board-is e c q)
    go false q = g (λ z. let y : true ≡ false = sym (same_board-self c) ∙ (rw z at q) in let x : ◌≡◌ {A = ℕ} 0 1 = cc in omega arith)

-- ---- a list looked through from a number on

module _ (e : List ℤ) where
  -- no place before k, and not at k, so none before k + 1
  pub place-past : (l : Boards) (k : ℕ) → k ≤ place e l → k < length l → get_or l k [] ≢ e → suc k ≤ place e l
  place-past [] k h m n = absurd (omega arith)
  place-past (c ∷ l) zero h m n = by-head e c l (λ i. 1 ≤ i) (λ q. absurd (n (sym q))) (λ q. omega arith)
  place-past (c ∷ l) (suc k) h m n =
      by-head e c l (λ i. suc k ≤ i → suc (suc k) ≤ i) (λ q g. absurd (omega arith)) (λ q g. omega (arith, place-past l k (omega arith) (omega arith) n)) h

  pub place_at : (l : Boards) (k : ℕ) → k ≤ place e l → k < length l → get_or l k [] ≡ e → place e l ≡ k
  place_at [] k h m q = absurd (omega arith)
  place_at (c ∷ l) zero h m q = place_here e c l (sym q)
  place_at (c ∷ l) (suc k) h m q =
      by-head e c l (λ i. suc k ≤ i → i ≡ suc k) (λ z g. absurd (omega arith)) (λ z g. ap suc (place_at l k (omega arith) (omega arith) q)) h

  -- the same past m of them
  pub place-past-all : (l : Boards) (k m : ℕ) → k ≤ place e l → k + m ≤ length l → ((j : ℕ) → j < m → get_or l (k + j) [] ≢ e) → k + m ≤ place e l
  place-past-all l k zero h b f = omega arith
  place-past-all l k (suc m) h b f =
      let i = place-past-all l k m h (omega arith) (λ j g. f j (omega arith)) in
      let r = place-past l (k + m) i (omega arith) (f m (omega arith)) in
      omega arith

-- ---- what stands in the list has a place below its length, and nothing else

pub place_in : (e : List ℤ) (l : Boards) → In e l → place e l < length l
place_in e [] m = absurd m
place_in e (c ∷ l) (inl q) = rw (place_here e c l q) (omega arith)
place_in e (c ∷ l) (inr m) = by-head e c l (λ n. n < suc (length l)) (λ q. omega arith) (λ q. omega (arith, place_in e l m))

pub in_place : (e : List ℤ) (l : Boards) → place e l < length l → In e l
in_place e [] h = absurd (omega arith)
in_place e (c ∷ l) h = by-head e c l (λ n. n < suc (length l) → In e (c ∷ l)) (λ q g. inl q) (λ q g. inr (in_place e l (omega arith))) h

-- it stands at its place
pub place-get_or : (e : List ℤ) (l : Boards) → place e l < length l → get_or l (place e l) [] ≡ e
place-get_or e [] h = absurd (omega arith)
place-get_or e (c ∷ l) h =
    by-head e c l (λ n. n < suc (length l) → get_or (c ∷ l) n [] ≡ e) (λ q g. sym q) (λ q g. place-get_or e l (omega arith)) h

-- so boards with one place are one board
pub place_same : (e f : List ℤ) (l : Boards) → In e l → In f l → place e l ≡ place f l → e ≡ f
place_same e f l m n q =
    sym (place-get_or e l (place_in e l m)) ∙ ap (λ (k : ℕ). get_or l k []) q ∙ place-get_or f l (place_in f l n)

get_or-in : (l : Boards) (k : ℕ) → k < length l → In (get_or l k []) l
get_or-in [] k h = absurd (omega arith)
get_or-in (c ∷ l) zero h = inl refl
get_or-in (c ∷ l) (suc k) h = inr (get_or-in l k (omega arith))

-- in a list with nothing twice the board at k has the place k
pub place-once : (l : Boards) → Once l → (k : ℕ) → k < length l → place (get_or l k []) l ≡ k
place-once [] o k h = absurd (omega arith)
place-once (c ∷ l) o zero h = place_here c c l refl
place-once (c ∷ l) o (suc k) h =
    let e = get_or l k [] in
    place-there e c l (λ q. o.0 (subst (λ (x : List ℤ). In x l) q (get_or-in l k (omega arith)))) ∙ ap suc (place-once l o.1 k (omega arith))

-- ---- sides switched

pub place-switched : (e : List ℤ) (l : Boards) → length e ≡ 26 → ((c : List ℤ) → In c l → length c ≡ 26)
    → place (switched e) (map switched l) ≡ place e l
unfolding place
place-switched e [] s h = refl
place-switched e (c ∷ l) s h =
    by-head e c l (λ n. place (switched e) (switched c ∷ map switched l) ≡ n) (λ q. place_here (switched e) (switched c) (map switched l) (ap switched q))
    (λ q.
    place-there (switched e) (switched c) (map switched l) (λ z. q (switched-same e c s (h c (inl refl)) z))
    ∙ ap suc (place-switched e l s (λ a m. h a (inr m))))

-- ---- the ends of a roll

module _ (n : ℕ) (b : List ℤ) (d1 d2 : ℕ) (a : Accepted n b) (dd1 : Die d1) (dd2 : Die d2) where
  -- a board has a number exactly where it is a legal end, sides switched
  pub number-legal : (e : List ℤ)
      → (place e (switched_ends_of b d1 d2) < ends_count b d1 d2) ↔ ((f : List ℤ) × LegalEnd b d1 d2 f × (e ≡ switched f))
  unfolding ends_count
  number-legal e = (
    (λ h. (switched-exact n b d1 d2 a dd1 dd2 e).0 (in_place e (switched_ends_of b d1 d2) h)),
    λ r. place_in e (switched_ends_of b d1 d2) ((switched-exact n b d1 d2 a dd1 dd2 e).1 r),
  )

  -- the end with the number k has it
  pub number-once : (k : ℕ) → k < ends_count b d1 d2 → place (get_or (switched_ends_of b d1 d2) k []) (switched_ends_of b d1 d2) ≡ k
  unfolding ends_count
  number-once k h = place-once (switched_ends_of b d1 d2) (once-switched n b d1 d2 a dd1 dd2) k h

  -- an end told from the mover's side has its switched board's number
  pub number-switched : (e : List ℤ) → length e ≡ 26 → place (switched e) (switched_ends_of b d1 d2) ≡ place e (ends_of b d1 d2)
  unfolding switched_ends_of
  number-switched e s =
      place-switched e (ends_of b d1 d2) s (λ c m. (end-accepted n b d1 d2 c a ((accepted-exact a d1 d2 dd1 dd2 c).0 m)).size)
