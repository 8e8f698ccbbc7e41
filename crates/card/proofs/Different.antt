-- Different games have different cards: the card tells the start, the number of turns, each roll and each end. A game has one card, since
-- `card_of` is a function of it. Stated over the number n of checkers a side, at most fifteen. Assumes nothing.
use mathlib.Core.Path.{◌≡◌, refl, sym, ap, ap₂, subst, ◌∙◌}
use mathlib.Core.List.{List, [], ◌∷◌}
use mathlib.Core.Logic.{◌≢◌}
use Prim.Native.Nat.{ℕ, ◌≤◌}
use lib.IntN.{ℤ}
use lib.ListN.{length, get_or, drop}
use Rattle.position.specs.Board.{Accepted}
use Rattle.rules.specs.Ends.{ends_of}
use Rattle.key.proofs.ReadBack.{different-keys}
use Rattle.card.specs.Game.{Turn, Played, Game, next}
use Rattle.card.specs.Card.{records_of, card_of}
use Rattle.card.specs.Read.{start_key, larger, smaller, end_number}
use Rattle.card.proofs.Starts.{key-of-start, after-start}
use Rattle.card.proofs.Turns.{larger-read, smaller-read, number_read, number-names, next-accepted}

-- a turn is its roll and its end
same_turn : (t u : Turn) → t.larger ≡ u.larger → t.smaller ≡ u.smaller → t.stops ≡ u.stops → t ≡ u
same_turn t u l s e =
    ap₂ (λ (x y : ℕ). record { larger = x; smaller = y; stops = t.stops }) l s
    ∙ ap (λ (z : List ℤ). record { larger = u.larger; smaller = u.smaller; stops = z }) e

-- the records tell the turns
pub different-turns : {n : ℕ} {b : List ℤ} → Accepted n b → (ts us : List Turn) → Played b ts → Played b us → records_of b ts ≡ records_of b us → ts ≡ us
different-turns a [] [] p q e = refl
different-turns a [] (u ∷ us) p q e = cc
different-turns a (t ∷ ts) [] p q e = cc
different-turns {n} {b} a (t ∷ ts) (u ∷ us) p q e =
    let x = records_of (next t) ts in
    let y = records_of (next u) us in
    let l : t.larger ≡ u.larger = sym (larger-read a t p.1 p.2 x) ∙ ap larger e ∙ larger-read a u q.1 q.2 y in
    let s : t.smaller ≡ u.smaller = sym (smaller-read a t p.1 p.2 x) ∙ ap smaller e ∙ smaller-read a u q.1 q.2 y in
    let k = sym (number_read a t p.1 p.2 x) ∙ ap end_number e ∙ number_read a u q.1 q.2 y in
    let named = ap₂ (λ (c : List (List ℤ)) (i : ℕ). get_or c i []) (ap₂ (ends_of b) l s) k in
    let same : t ≡ u = same_turn t u l s (sym (number-names a t p.1 p.2) ∙ named ∙ number-names a u q.1 q.2) in
    let rest : records_of (next t) ts ≡ records_of (next t) us = ap (drop 5) e ∙ ap (λ (v : Turn). records_of (next v) us) (sym same) in
    ap₂ ◌∷◌ same (different-turns {n = n} {b = next t} (next-accepted a t p.1 p.2) ts us p.3 (subst (λ (v : Turn). Played (next v) us) (sym same) q.3) rest)

module _ {n m : ℕ} (few : n ≤ 15) {s s' : List ℤ} {ts ts' : List Turn} (g : Game n m s ts) (h : Game n m s' ts') where
  -- two games of one card are one game
  pub different-games : card_of s ts ≡ card_of s' ts' → (s ≡ s') × (ts ≡ ts')
  different-games e =
      let key = sym (key-of-start s (records_of s ts)) ∙ ap start_key e ∙ key-of-start s' (records_of s' ts') in
      let start = different-keys n s s' few g.accepted h.accepted key in
      let records = sym (after-start s (records_of s ts)) ∙ ap (drop 12) e ∙ after-start s' (records_of s' ts') in
      let same : records_of s ts ≡ records_of s ts' = records ∙ ap (λ (b : List ℤ). records_of b ts') (sym start) in
      (start, different-turns g.accepted ts ts' g.played (subst (λ (b : List ℤ). Played b ts') (sym start) h.played) same)

  -- so games that differ in anything have different cards
  differ : {A : Type 0} (f : List ℤ → List Turn → A) → f s ts ≢ f s' ts' → card_of s ts ≢ card_of s' ts'
  differ f d e = let r = different-games e in d (ap₂ f r.0 r.1)

  pub start-differs : s ≢ s' → card_of s ts ≢ card_of s' ts'
  start-differs = differ (λ b l. b)

  pub number-differs : length ts ≢ length ts' → card_of s ts ≢ card_of s' ts'
  number-differs = differ (λ b l. length l)

  module _ (k : ℕ) (none : Turn) where
    pub larger-differs : (get_or ts k none).larger ≢ (get_or ts' k none).larger → card_of s ts ≢ card_of s' ts'
    larger-differs = differ (λ b l. (get_or l k none).larger)

    pub smaller-differs : (get_or ts k none).smaller ≢ (get_or ts' k none).smaller → card_of s ts ≢ card_of s' ts'
    smaller-differs = differ (λ b l. (get_or l k none).smaller)

    pub end-differs : (get_or ts k none).stops ≢ (get_or ts' k none).stops → card_of s ts ≢ card_of s' ts'
    end-differs = differ (λ b l. (get_or l k none).stops)
