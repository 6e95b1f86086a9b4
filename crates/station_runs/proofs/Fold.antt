-- A run in stretches: what is left at a place, for the loop that runs them.
use mathlib.Core.Path.{◌≡◌, ◌∙◌, refl, sym, ap, subst}
use mathlib.Core.Bool.{true}
use mathlib.Core.List.{List, [], ◌++◌}
use Prim.Native.Nat.{ℕ, ◌+◌, ◌-◌, ◌≤◌}
use native.Mathlib.Nat.{add_assoc}
use native.Mathlib.Omega.{arith}
use lib.ListN.{length, drop, drop_of_length-le, take-append-drop, length-append}
use lib.Seq.{sets, length-sets, drop-drop}
use Rattle.lists.specs.Lists.{all_at_most}
use Rattle.lists.proofs.Lists.{sets-append, at-most-drop}
use Rattle.half_duplex.specs.declared.Core.{Core}
use Rattle.half_duplex.specs.Core.{mode_in}
use Rattle.queue.specs.Queue.{moved_by}
use Rattle.queue.proofs.Moves.{moved-by-more}
use Rattle.station.specs.declared.Station.{Station}
use Rattle.station.specs.Station.{station, mode_of_station, station_after, sent_by, words_by}
use Rattle.station.specs.Range.{in_range}
use Rattle.alphabet.specs.Modes.{highest_level}
use Rattle.station.proofs.Range.{after-full, after-in}
use Rattle.station.proofs.Cuts.{after_none, sent-none, words-none, cut, mode-after}
use Rattle.station.proofs.Lengths.{sent-length, few_words}
use Rattle.station.proofs.Takings.{taken-after}
use Rattle.station_stretches.specs.declared.Stretched.{Stretched}
use Rattle.station_stretches.specs.code.Stretches.{between, Stretches}
use Rattle.station_stretches.proofs.Laws.{at-most-take}
use Rattle.station_stretches.proofs.Joining.{between-length}

-- the ms of a stretch, and then the others
left-of : (heard : List ℕ) (i to : ℕ) → i ≤ to → drop i heard ≡ between i to heard ++ drop to heard
left-of heard i to h =
    let e : i + (to - i) ≡ to = omega arith in
    let others = drop-drop (to - i) i heard ∙ ap (λ (m : ℕ). drop m heard) e in
    sym (take-append-drop (to - i) (drop i heard)) ∙ ap (λ (l : List ℕ). between i to heard ++ l) others

-- The characters that wait beside a core, of those that waited beside the core c₀.
abbrev pub rest : Core → List ℕ → Core → List ℕ
rest c₀ chars₀ c = moved_by (c₀.waiting - c.waiting) chars₀

-- The ms heard are run from the core c₀ on; at the place i this is left.
pub record Left (heard chars₀ sent₀ words₀ : List ℕ) (c₀ : Core)
    (chars sent₁ words₁ : List ℕ) (c : Core) (i n : ℕ) : Type 0 where
  pub sent_size : length sent₁ ≡ length sent₀
  pub words_size : length words₁ ≡ length words₀
  pub full : length chars ≡ 256
  pub fewer : c.waiting ≤ c₀.waiting
  pub within : i ≤ length heard
  pub room : n ≤ i
  pub ranged : in_range (station c chars) ≡ true
  pub mode : mode_in c ≡ mode_in c₀
  pub after : station_after (station c chars) (drop i heard) ≡ station_after (station c₀ chars₀) heard
  pub sent : sets sent₁ i (sent_by (station c chars) (drop i heard)) ≡ sets sent₀ 0 (sent_by (station c₀ chars₀) heard)
  pub place : n + length (words_by (station c chars) (drop i heard)) ≡ length (words_by (station c₀ chars₀) heard)
  pub words : sets words₁ n (words_by (station c chars) (drop i heard))
      ≡ sets words₀ 0 (words_by (station c₀ chars₀) heard)

module _ (heard chars₀ sent₀ words₀ : List ℕ) (c₀ : Core) where
  pub left-start : in_range (station c₀ chars₀) ≡ true → length chars₀ ≡ 256
      → Left heard chars₀ sent₀ words₀ c₀ (rest c₀ chars₀ c₀) sent₀ words₀ c₀ 0 0
  unfolding moved_by
  left-start i f =
      let none : 0 ≡ c₀.waiting - c₀.waiting = omega arith in
      subst (λ (k : ℕ). Left heard chars₀ sent₀ words₀ c₀ (moved_by k chars₀) sent₀ words₀ c₀ 0 0) none (record {
        sent_size = refl;
        words_size = refl;
        full = f;
        fewer = omega arith;
        within = omega arith;
        room = omega arith;
        ranged = i;
        mode = refl;
        after = refl;
        sent = refl;
        place = omega arith;
        words = refl;
      })

  module _ (sent₁ words₁ : List ℕ) (c : Core) (i n : ℕ)
      (l : Left heard chars₀ sent₀ words₀ c₀ (rest c₀ chars₀ c) sent₁ words₁ c i n) where
    abbrev chars : List ℕ
    chars = rest c₀ chars₀ c

    -- one stretch more
    pub left-turn : all_at_most (highest_level (mode_in c₀)) heard ≡ true
        → (x : Stretched) (sent' words' : List ℕ) (k : ℕ) → k ≡ c₀.waiting - c.waiting
        → Stretches heard c (moved_by k chars₀) sent₁ words₁ i n x sent' words'
        → Left heard chars₀ sent₀ words₀ c₀ (rest c₀ chars₀ x.core) sent' words' x.core x.at x.words
    left-turn levels x sent' words' m em given =
        let t = subst (λ (k : ℕ). Stretches heard c (moved_by k chars₀) sent₁ words₁ i n x sent' words') em given in
        let s = station c chars in
        let xs = between i x.at heard in
        let taken = taken-after s xs in
        let less = taken.fewer in
        let before = l.fewer in
        let same = ap (λ (k : Core). k.waiting) t.after in
        let w₀ = c₀.waiting in
        let w = c.waiting in
        let sum : (w₀ - w) + (w - (station_after s xs).core.waiting) ≡ w₀ - x.core.waiting = omega arith in
        let chars' = rest c₀ chars₀ x.core in
        let moves = taken.moves ∙ moved-by-more _ _ chars₀ ∙ ap (λ (k : ℕ). moved_by k chars₀) sum in
        let whole : station x.core chars' ≡ station_after s xs = λ j. station (t.after j) (sym moves j) in
        let ys = drop x.at heard in
        let low = t.low in
        let a = left-of heard i x.at (omega arith) in
        let k = cut s xs ys in
        let ws = words_by s xs in
        let vs = words_by (station x.core chars') ys in
        let us = sent_by (station x.core chars') ys in
        let size = between-length heard i x.at t.high in
        let few = few_words s xs in
        let room = l.room in
        let place = t.place in
        let heights : all_at_most (highest_level (mode_in c)) xs ≡ true =
        rw l.mode (at-most-take _ (x.at - i) (drop i heard) (at-most-drop _ heard i levels)) in
        let sl : length (sent_by s xs) ≡ x.at - i = sent-length s xs ∙ size in
        let sa : x.at ≡ i + length (sent_by s xs) = omega arith in
        let st : sent_by s xs ++ us ≡ sent_by s (drop i heard) =
        ap (λ (z : Station). sent_by s xs ++ sent_by z ys) whole ∙ sym k.sent ∙ sym (ap (sent_by s) a) in
        let wt : ws ++ vs ≡ words_by s (drop i heard) =
        ap (λ (z : Station). ws ++ words_by z ys) whole ∙ sym k.words ∙ sym (ap (words_by s) a) in
        record {
          sent_size = ap length t.sent ∙ length-sets sent₁ i (sent_by s xs) ∙ l.sent_size;
          words_size = ap length t.words ∙ length-sets words₁ n ws ∙ l.words_size;
          full = ap (λ (z : Station). length z.chars) whole ∙ after-full s xs l.full;
          fewer = omega arith;
          within = t.high;
          room = omega arith;
          ranged = ap in_range whole ∙ after-in s xs l.full l.ranged heights;
          mode = ap mode_of_station whole ∙ mode-after s xs ∙ l.mode;
          after = ap (λ (z : Station). station_after z ys) whole
              ∙ sym k.station
              ∙ sym (ap (station_after s) a)
              ∙ l.after;
          sent = (λ j. sets (t.sent j) (sa j) us)
              ∙ sym (sets-append sent₁ i (sent_by s xs) us)
              ∙ ap (sets sent₁ i) st
              ∙ l.sent;
          place = ap (λ (m : ℕ). m + length vs) place
              ∙ add_assoc n (length ws) (length vs)
              ∙ sym (ap (λ (m : ℕ). n + m) (length-append ws vs))
              ∙ ap (λ (z : List ℕ). n + length z) wt
              ∙ l.place;
          words = (λ j. sets (t.words j) (place j) vs)
              ∙ sym (sets-append words₁ n ws vs)
              ∙ ap (sets words₁ n) wt
              ∙ l.words;
        }

    -- nothing is left
    module _ (h : length heard ≤ i) where
      none : drop i heard ≡ []
      none = drop_of_length-le heard h

      pub left-station : station c chars ≡ station_after (station c₀ chars₀) heard
      left-station = sym (ap (station_after (station c chars)) none ∙ after_none (station c chars)) ∙ l.after

      pub left-sent : sent₁ ≡ sets sent₀ 0 (sent_by (station c₀ chars₀) heard)
      left-sent = sym (ap (sets sent₁ i) (ap (sent_by (station c chars)) none ∙ sent-none (station c chars))) ∙ l.sent

      no_words : words_by (station c chars) (drop i heard) ≡ []
      no_words = ap (words_by (station c chars)) none ∙ words-none (station c chars)

      pub left-place : n ≡ length (words_by (station c₀ chars₀) heard)
      left-place = let z = ap length no_words in let p = l.place in omega arith

      pub left-words : words₁ ≡ sets words₀ 0 (words_by (station c₀ chars₀) heard)
      left-words = sym (ap (sets words₁ n) no_words) ∙ l.words
