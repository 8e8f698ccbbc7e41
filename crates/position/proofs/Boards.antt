-- Laws of boards: what the refusals tell, and how small an accepted board's entries are. Stated over the number n of checkers a side.
-- Assumes nothing.
use mathlib.Core.Path.{◌≡◌, refl, sym, ap, ◌∙◌}
use mathlib.Core.List.{List}
use mathlib.Core.Logic.{◌≢◌, ⊎_elim}
use Prim.Native.Nat.{ℕ, ◌+◌, ◌-◌, ◌≤◌, ◌<◌}
use native.Mathlib.Decide.{dec_lt}
use native.Mathlib.Omega.{arith}
use borrow.Author.Tests.{lt-ltb, le-ltb, eq-eqb, ne_eqb}
use lib.IntN.{ℤ, pos}
use lib.ListN.{length, set, get_or-eq_default}
use lib.Seq.{get_or-set_same, get_or-set_other, ext_get_or}
use lib.Signed.{mag}
use Rattle.ints.specs.Signed.{pos_part, neg_part, Small}
use Rattle.ints.proofs.Signed.{apart, in-range, same_parts}
use Rattle.ints.proofs.Sums.{part-le}
use Rattle.ints.proofs.Tests.{lt-or-le}
use Rattle.position.specs.Board.{entry, xs, os, x_all, o_all, refusal_of, start_refusal, Accepted}
use Rattle.position.specs.Answers.{Judged, Started}

-- ---- the refusals, in their order

module _ (n : ℕ) (b : List ℤ) where
  pub judged-1 : n < x_all b → Judged n b 1
  unfolding refusal_of
  judged-1 h = record { is = rw (lt-ltb n (x_all b) h); ok = λ e. absurd (omega arith) }

  module _ (hx : x_all b ≤ n) where
    pub judged-2 : n < o_all b → Judged n b 2
    unfolding refusal_of
    judged-2 h = record { is = rw (le-ltb n (x_all b) hx, lt-ltb n (o_all b) h); ok = λ e. absurd (omega arith) }

    module _ (ho : o_all b ≤ n) where
      pub judged-3 : 0 < os b 25 → Judged n b 3
      unfolding refusal_of
      judged-3 h = record { is = rw (le-ltb n (x_all b) hx, le-ltb n (o_all b) ho, lt-ltb 0 (os b 25) h); ok = λ e. absurd (omega arith) }

      module _ (hb : os b 25 ≡ 0) where
        pub judged-4 : 0 < xs b 0 → Judged n b 4
        unfolding refusal_of
        judged-4 h = record {
          is = rw (le-ltb n (x_all b) hx, le-ltb n (o_all b) ho, le-ltb 0 (os b 25) (omega arith), lt-ltb 0 (xs b 0) h);
          ok = λ e. absurd (omega arith);
        }

        pub judged-0 : xs b 0 ≡ 0 → length b ≡ 26 → Judged n b 0
        unfolding refusal_of
        judged-0 h l = record {
          is = rw (le-ltb n (x_all b) hx, le-ltb n (o_all b) ho, le-ltb 0 (os b 25) (omega arith), le-ltb 0 (xs b 0) (omega arith));
          ok = λ e. record { size = l; x-most = hx; o-most = ho; x-bar = hb; o-bar = h };
        }

-- ---- accepted exactly where nothing refuses

pub accepted-unrefused : (n : ℕ) (b : List ℤ) → Accepted n b → refusal_of n b ≡ 0
accepted-unrefused n b a = sym (judged-0 n b a.x-most a.o-most a.x-bar a.o-bar a.size).is

-- the first test that holds decides
pub judged : (n : ℕ) (b : List ℤ) → length b ≡ 26 → Judged n b (refusal_of n b)
judged n b l =
    ⊎_elim (λ h. is (judged-1 n b h)) (λ hx.
    ⊎_elim (λ h. is (judged-2 n b hx h)) (λ ho.
    ⊎_elim (λ h. is (judged-3 n b hx ho h)) (λ hb.
    ⊎_elim (λ h. is (judged-4 n b hx ho (omega arith) h)) (λ h.
    is (judged-0 n b hx ho (omega arith) (omega arith) l))
    (lt-or-le 0 (xs b 0)))
    (lt-or-le 0 (os b 25)))
    (lt-or-le n (o_all b)))
    (lt-or-le n (x_all b))
  where
    is : {k : ℕ} → Judged n b k → Judged n b (refusal_of n b)
    is {k} j = let e = j.is in record { is = refl; ok = λ z. j.ok (omega arith) }

pub unrefused-accepted : (n : ℕ) (b : List ℤ) → length b ≡ 26 → refusal_of n b ≡ 0 → Accepted n b
unrefused-accepted n b l e = (judged n b l).ok e

-- no side has more than its checkers, however many entries there are
pub unrefused-most : (n : ℕ) (b : List ℤ) → refusal_of n b ≡ 0 → (x_all b ≤ n) × (o_all b ≤ n)
unrefused-most n b e =
    ⊎_elim (λ h. let z = (judged-1 n b h).is in absurd (omega arith)) (λ hx.
    ⊎_elim (λ h. let z = (judged-2 n b hx h).is in absurd (omega arith)) (λ ho. (hx, ho))
    (lt-or-le n (o_all b)))
    (lt-or-le n (x_all b))

-- ---- a board from which a play is asked or a card starts

module _ (n : ℕ) (b : List ℤ) where
  pub started-board : {r : ℕ} → Judged n b r → (r ≡ 0 → ⊥) → Started n b r
  unfolding start_refusal
  started-board {r} j h =
      let e = j.is in
      record { is = e ∙ rw (lt-ltb 0 (refusal_of n b) (omega (arith, h))); ok = j.ok }

  module _ (ok : refusal_of n b ≡ 0) where
    pub started-6 : x_all b ≡ 0 → o_all b ≡ 0 → Started n b 6
    unfolding start_refusal
    started-6 x o = record {
      is = rw (le-ltb 0 (refusal_of n b) (omega arith), eq-eqb (x_all b + o_all b) 0 (omega arith));
      ok = λ e. absurd (omega arith);
    }

    pub started-5-x : x_all b ≡ 0 → 0 < x_all b + o_all b → Started n b 5
    unfolding start_refusal
    started-5-x x s = record {
      is = rw (le-ltb 0 (refusal_of n b) (omega arith), ne_eqb (x_all b + o_all b) 0 (λ e. omega arith), eq-eqb (x_all b) 0 x);
      ok = λ e. absurd (omega arith);
    }

    pub started-5-o : 0 < x_all b → o_all b ≡ 0 → Started n b 5
    unfolding start_refusal
    started-5-o x o = record {
      is =
          rw (le-ltb 0 (refusal_of n b) (omega arith), ne_eqb (x_all b + o_all b) 0 (λ e. omega arith), ne_eqb (x_all b) 0 (λ e. omega arith), eq-eqb (o_all b) 0 o);
      ok = λ e. absurd (omega arith);
    }

  pub started-0 : Accepted n b → 0 < x_all b → 0 < o_all b → Started n b 0
  unfolding start_refusal
  started-0 a x o =
      let z = accepted-unrefused n b a in
      record {
        is =
            rw (le-ltb 0 (refusal_of n b) (omega arith), ne_eqb (x_all b + o_all b) 0 (λ e. omega arith), ne_eqb (x_all b) 0 (λ e. omega arith), ne_eqb (o_all b) 0 (λ e. omega arith));
        ok = λ e. a;
      }

-- ---- entries

pub at-most-all : (b : List ℤ) (p : ℕ) → p < 26 → (xs b p ≤ x_all b) × (os b p ≤ o_all b)
at-most-all b p h = (part-le (xs b) 26 p h, part-le (os b) 26 p h)

pub accepted-small : {n : ℕ} {b : List ℤ} → Accepted n b → Small n b
accepted-small {n} {b} a i = go (dec_lt i 26)
  where
    go : Dec (i < 26) → mag (entry b i) ≤ n
    go (yes h) =
        let m = at-most-all b i h in
        let x = a.x-most in
        let o = a.o-most in
        let r : mag (entry b i) < n + 1 = in-range (entry b i) (n + 1) (omega arith) (omega arith) in
        omega arith
    go (no h) = let e : entry b i ≡ pos 0 = get_or-eq_default b (pos 0) (omega (arith, a.size)) in rw e (omega arith)

-- at no entry do both sides stand
pub apart-at : (b : List ℤ) (i : ℕ) → xs b i - os b i ≡ xs b i
apart-at b i = apart (entry b i)

-- where x has a checker there is an entry
pub has-entry : (b : List ℤ) (p : ℕ) → 0 < xs b p → p < length b
has-entry b p h = go (dec_lt p (length b))
  where
    go : Dec (p < length b) → p < length b
    go (yes l) = l
    go (no n) =
        let e : entry b p ≡ pos 0 = get_or-eq_default b (pos 0) (omega arith) in
        let z : xs b p ≡ 0 = ap pos_part e in
        absurd (omega arith)

pub xs-set-same : (b : List ℤ) (p : ℕ) (z : ℤ) → p < length b → xs (set b p z) p ≡ pos_part z
xs-set-same b p z h = ap pos_part (get_or-set_same b p z (pos 0) h)

pub os-set-same : (b : List ℤ) (p : ℕ) (z : ℤ) → p < length b → os (set b p z) p ≡ neg_part z
os-set-same b p z h = ap neg_part (get_or-set_same b p z (pos 0) h)

pub xs-set-other : (b : List ℤ) (p : ℕ) (z : ℤ) (i : ℕ) → i ≢ p → xs (set b p z) i ≡ xs b i
xs-set-other b p z i h = ap pos_part (get_or-set_other b p i z (pos 0) h)

pub os-set-other : (b : List ℤ) (p : ℕ) (z : ℤ) (i : ℕ) → i ≢ p → os (set b p z) i ≡ os b i
os-set-other b p z i h = ap neg_part (get_or-set_other b p i z (pos 0) h)

-- boards with the same checkers everywhere are equal
pub same-board : (b c : List ℤ) → length b ≡ length c → ((i : ℕ) → (xs b i ≡ xs c i) × (os b i ≡ os c i)) → b ≡ c
same-board b c l h = ext_get_or (pos 0) b c l (λ i q. same_parts (entry b i) (entry c i) (h i).0 (h i).1)
