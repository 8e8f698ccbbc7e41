-- Laws of the side switch: what each entry becomes, that it keeps a board accepted, and that twice gives the board back.
-- Assumes nothing.
use mathlib.Core.Path.{◌≡◌, sym, ap, ◌∙◌}
use mathlib.Core.List.{List}
use Prim.Native.Nat.{ℕ, ◌-◌, ◌<◌}
use native.Mathlib.Omega.{arith}
use lib.IntN.{ℤ, pos, neg_ℤ, neg_ℤ-neg_ℤ}
use lib.ListN.{length}
use lib.Seq.{ext_get_or}
use Rattle.ints.specs.Signed.{pos_part, neg_part}
use Rattle.ints.proofs.Signed.{neg-pos_part, neg-neg_part}
use Rattle.ints.proofs.Sums.{length-values, table_at, sum-turned}
use Rattle.position.specs.Board.{Accepted, entry, xs, os, x_all, o_all, switched}

module _ (b : List ℤ) where
  pub switched-size : length (switched b) ≡ 26
  unfolding switched
  switched-size = length-values _ 0 26

  pub switched-at : (k : ℕ) → k < 26 → entry (switched b) k ≡ neg_ℤ (entry b (25 - k))
  unfolding switched
  switched-at k h = table_at _ 26 k (pos 0) h

  -- x's checkers are where o's were, from the other end, and o's where x's were
  pub switched-xs : (k : ℕ) → k < 26 → xs (switched b) k ≡ os b (25 - k)
  switched-xs k h = ap pos_part (switched-at k h) ∙ neg-pos_part (entry b (25 - k))

  pub switched-os : (k : ℕ) → k < 26 → os (switched b) k ≡ xs b (25 - k)
  switched-os k h = ap neg_part (switched-at k h) ∙ neg-neg_part (entry b (25 - k))

  pub switched-x_all : x_all (switched b) ≡ o_all b
  switched-x_all = sum-turned (os b) (xs (switched b)) 26 (λ k h. switched-xs k h ∙ ap (os b) (omega arith))

  pub switched-o_all : o_all (switched b) ≡ x_all b
  switched-o_all = sum-turned (xs b) (os (switched b)) 26 (λ k h. switched-os k h ∙ ap (xs b) (omega arith))

pub switched-accepted : (n : ℕ) (b : List ℤ) → Accepted n b → Accepted n (switched b)
switched-accepted n b a = record {
  size = switched-size b;
  x-most = omega (arith, switched-x_all b, a.o-most);
  o-most = omega (arith, switched-o_all b, a.x-most);
  x-bar = switched-os b 25 (omega arith) ∙ a.o-bar;
  o-bar = switched-xs b 0 (omega arith) ∙ a.x-bar;
}

pub switched-twice : (b : List ℤ) → length b ≡ 26 → switched (switched b) ≡ b
switched-twice b l =
    ext_get_or (pos 0) (switched (switched b)) b (switched-size (switched b) ∙ sym l)
    (λ k h.
    let s = switched-size (switched b) in
    let m : k < 26 = omega arith in
    switched-at (switched b) k m ∙ ap neg_ℤ (switched-at b (25 - k) (omega arith)) ∙ neg_ℤ-neg_ℤ _ ∙ ap (entry b) (omega arith))

-- boards that look alike from the other side are alike
pub switched-same : (b c : List ℤ) → length b ≡ 26 → length c ≡ 26 → switched b ≡ switched c → b ≡ c
switched-same b c l m e = sym (switched-twice b l) ∙ ap switched e ∙ switched-twice c m
