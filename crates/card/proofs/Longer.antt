-- A game and the game with turns added: when the longer one is a game, what its card is, and how long a card is. Assumes nothing.
use mathlib.Core.Path.{◌≡◌, refl, sym, ap, ◌∙◌}
use mathlib.Core.List.{List, [], ◌∷◌, ◌++◌, append_assoc}
use Prim.Native.Nat.{ℕ, ◌*◌, ◌<◌}
use native.Mathlib.Omega.{arith}
use lib.IntN.{ℤ}
use lib.ListN.{length, get_or, length-append}
use Rattle.position.specs.Board.{Accepted}
use Rattle.rules.specs.Plays.{LegalEnd}
use Rattle.card.specs.Game.{Roll, Turn, Unfinished, Played, Game, next, positions}
use Rattle.card.specs.Card.{start_record, record_of, records_of, card_of}
use Rattle.card.specs.Read.{turn_at}
use Rattle.card.proofs.Starts.{length-start}
use Rattle.card.proofs.Turns.{next-accepted}

-- the board after all turns
abbrev pub last_board : List ℤ → List Turn → List ℤ
last_board b ts = get_or (positions b ts) (length ts) []

-- the turn t can be played from b
pub record CanAdd (b : List ℤ) (t : Turn) : Type 0 where
  pub unfinished : Unfinished b
  pub roll : Roll t.larger t.smaller
  pub legal : LegalEnd b t.larger t.smaller t.stops

-- ---- turns

pub last-accepted : {n : ℕ} {b : List ℤ} → Accepted n b → (ts : List Turn) → Played b ts → Accepted n (last_board b ts)
last-accepted a [] p = a
last-accepted {n = n} {b = b} a (t ∷ ts) p = last-accepted {n = n} {b = next t} (next-accepted a t p.1 p.2) ts p.3

pub played-first : (b : List ℤ) (ts us : List Turn) → Played b (ts ++ us) → Played b ts
played-first b [] us p = tt
played-first b (t ∷ ts) us p = (p.0, p.1, p.2, played-first (next t) ts us p.3)

pub played-last : (b : List ℤ) (ts : List Turn) (t : Turn) → Played b (ts ++ (t ∷ [])) → CanAdd (last_board b ts) t
played-last b [] t p = record { unfinished = p.0; roll = p.1; legal = p.2 }
played-last b (u ∷ ts) t p = played-last (next u) ts t p.3

pub played-more : (b : List ℤ) (ts : List Turn) (t : Turn) → Played b ts → CanAdd (last_board b ts) t → Played b (ts ++ (t ∷ []))
played-more b [] t p c = (c.unfinished, c.roll, c.legal, tt)
played-more b (u ∷ ts) t p c = (p.0, p.1, p.2, played-more (next u) ts t p.3 c)

-- ---- games

pub game-first : {n m : ℕ} {s : List ℤ} (ts us : List Turn) → Game n m s (ts ++ us) → Game n m s ts
game-first {n} {m} {s} ts us g = record {
  accepted = g.accepted;
  unfinished = g.unfinished;
  played = played-first s ts us g.played;
  few = omega (arith, g.few, length-append ts us);
}

pub game-more : {n m : ℕ} {s : List ℤ} {ts : List Turn} (t : Turn) → Game n m s ts → length ts < m → CanAdd (last_board s ts) t → Game n m s (ts ++ (t ∷ []))
game-more {n} {m} {s} {ts} t g h c = record {
  accepted = g.accepted;
  unfinished = g.unfinished;
  played = played-more s ts t g.played c;
  few = omega (arith, length-append ts (t ∷ []));
}

pub game-last : {n m : ℕ} {s : List ℤ} {ts : List Turn} → Game n m s ts → Accepted n (last_board s ts)
game-last {n} {m} {s} {ts} g = last-accepted g.accepted ts g.played

-- ---- cards

pub length-records : (b : List ℤ) (ts : List Turn) → length (records_of b ts) ≡ 5 * length ts
length-records b [] = refl
length-records b (t ∷ ts) = omega (arith, length-records (next t) ts)

pub length-card : (s : List ℤ) (ts : List Turn) → length (card_of s ts) ≡ turn_at (length ts)
length-card s ts = omega (arith, length-append (start_record s) (records_of s ts), length-start s, length-records s ts)

pub records-more : (b : List ℤ) (ts : List Turn) (t : Turn) → records_of b (ts ++ (t ∷ [])) ≡ records_of b ts ++ record_of (last_board b ts) t
records-more b [] t = refl
records-more b (u ∷ ts) t = ap (λ (l : List ℕ). record_of b u ++ l) (records-more (next u) ts t)

pub card-more : (s : List ℤ) (ts : List Turn) (t : Turn) → card_of s (ts ++ (t ∷ [])) ≡ card_of s ts ++ record_of (last_board s ts) t
card-more s ts t =
    ap (λ (l : List ℕ). start_record s ++ l) (records-more s ts t) ∙ sym (append_assoc (start_record s) (records_of s ts) (record_of (last_board s ts) t))
