-- What a stretch does is what its ms do one after the other.
use mathlib.Core.Path.{◌≡◌, ◌∙◌, refl, sym, ap, subst}
use mathlib.Core.Bool.{true, false}
use mathlib.Core.List.{List, [], ◌∷◌, append-nil}
use Prim.Native.Nat.{ℕ, ◌+◌, ◌-◌, ◌≤◌, ◌<◌}
use native.Mathlib.Omega.{arith}
use lib.ListN.{length, get_or, take, drop, set, replicate, length-drop, length-replicate}
use borrow.Rule.Slice.PartMut.{put_mid}
use lib.Seq.{sets, drop-cons, length-take-le}
use Rattle.lists.proofs.Lists.{either}
use Rattle.lists.specs.Tables.{tabulate}
use Rattle.lists.proofs.Tables.{tabulate-length}
use Rattle.signal_runs.proofs.Filling.{ms-set}
use Rattle.lists.specs.Steps.{state_after, outputs}
use Rattle.reader.specs.declared.Reader.{Reader}
use Rattle.reader.specs.Words.{word_of, words_of, reader_after, words}
use Rattle.half_duplex.specs.declared.Core.{Core}
use Rattle.burst.specs.declared.Loaded.{Loaded}
use Rattle.half_duplex.specs.declared.Stepped.{Stepped}
use Rattle.burst.specs.Line.{in_burst, part_ms, is_over}
use Rattle.half_duplex.specs.Core.{mode_in, settled, stepped, core_from}
use Rattle.half_duplex.specs.code.Bounds.{CoreIn}
use Rattle.burst.proofs.Range.{LoadedIn}
use Rattle.half_duplex.proofs.Range.{settled-in}
use Rattle.station.specs.declared.Station.{Station}
use Rattle.station.specs.Station.{station, chars_after, station_ms, sent_ms, event_of, station_after, sent_by, words_by}
use Rattle.station_stretches.specs.declared.Stretched.{Stretched}
use Rattle.half_duplex_runs.specs.code.Cores.{silence_over, loaded_core, sent_for, deaf_for, listened}
use Rattle.signal_runs.specs.code.Levels.{part_level}
use Rattle.station_stretches.specs.code.Stretches.{between, Stretches}
use Rattle.signal_runs.proofs.Elements.{level-same}
use Rattle.station_stretches.proofs.Laws.{Walk, loaded-alike, left-burst, left_over, deaf-walk, part-walk, listens}

pub between-length : (heard : List ℕ) (i to : ℕ) → to ≤ length heard → length (between i to heard) ≡ to - i
between-length heard i to h = let d = length-drop i heard in length-take-le (to - i) (drop i heard) (omega arith)

between-one : (heard : List ℕ) (i : ℕ) → i < length heard → between i (i + 1) heard ≡ get_or heard i 0 ∷ []
between-one heard i h =
    let e : i + 1 - i ≡ 1 = omega arith in
    ap (λ (m : ℕ). take m (drop i heard)) e ∙ ap (take 1) (drop-cons heard i 0 h)

-- what is written to a part of the slice
module _ (sent : List ℕ) (i to : ℕ) (low : i ≤ to) (high : to ≤ length sent) where
  pub quiet-set : (new : List ℕ) → new ≡ replicate (length (between i to sent)) 0
      → put_mid i (to - i) sent new ≡ sets sent i (replicate (to - i) 0)
  quiet-set new e = ms-set sent i to low high (λ (n : ℕ). replicate n 0) (λ (n : ℕ). length-replicate n 0) new e

  pub levels-set : (f : ℕ → ℕ) (new : List ℕ) → new ≡ tabulate f (length (between i to sent)) 0
      → put_mid i (to - i) sent new ≡ sets sent i (tabulate f (to - i) 0)
  levels-set f new e =
      ms-set sent i to low high (λ (n : ℕ). tabulate f n 0) (λ (n : ℕ). tabulate-length f n 0) new e

walk-to : {s : Station} {xs : List ℕ} {c d : Core} {chars : List ℕ} {levels : ℕ → ℕ}
    → Walk s xs (station c chars) levels → c ≡ d → Walk s xs (station d chars) levels
walk-to {chars = chars} w e = record {
  after = w.after ∙ ap (λ (k : Core). station k chars) e;
  sent = w.sent;
  words = w.words;
}

-- a core of which a part is sent
pub record Sends (c : Core) (l : Loaded) (d : Core) : Type 0 where
  pub core-in : CoreIn d
  pub mode_is : mode_in c ≡ mode_in d
  pub left : d.line.at + (length (part_ms (mode_in c) l.line) - l.line.at) ≡ length (part_ms (mode_in d) d.line)

pub loaded-sends : (c : Core) (given : ℕ) → CoreIn c → (1 ≤ c.waiting → given < 128)
    → (l : Loaded) → l ≡ settled c given → l.line.at < length (part_ms (mode_in c) l.line)
    → (d : Core) → d ≡ loaded_core c l → Sends c l d
unfolding loaded_core
loaded-sends c given i h l e m d ed =
    let j = subst (LoadedIn (mode_in c)) (sym e) (settled-in c given i h) in
    let w = i.waiting-in in
    subst (Sends c l) (sym ed) (record {
      core-in = record {
        waiting-in = either (λ (k : ℕ). k ≤ 256) l.takes (c.waiting - 1) c.waiting (omega arith) w;
        silence_in = i.silence_in;
        inhibited-in = i.inhibited-in;
        line-in = j.line-in;
        sender-in = j.sender-in;
        reader-in = i.reader-in;
      };
      mode_is = refl;
      left = omega arith;
    })

module _ (heard : List ℕ) (c : Core) (chars sent words₀ : List ℕ) (i n : ℕ) where
  -- one ms
  module _ (q : Stepped) (h : i < length heard) (e : q ≡ stepped c (settled c (get_or chars 0 0)) (get_or heard i 0))
    where
      pub step-stretch : (sent' : List ℕ) → sent' ≡ set sent i q.sent
          → (n' : ℕ) → n' ≡ n + length (word_of q.event)
          → (words' : List ℕ) → words' ≡ sets words₀ n (word_of q.event)
          → Stretches heard c chars sent words₀ i n (record { core = q.core; at = i + 1; words = n' }) sent' words'
      unfolding state_after outputs words_of station_ms sent_ms event_of core_from
      step-stretch sent' es n' en words' ew =
          let o = between-one heard i h in
          let s = station c chars in
          let w : words_by s (between i (i + 1) heard) ≡ word_of q.event =
          ap (words_by s) o ∙ append-nil _ ∙ sym (ap (λ (p : Stepped). word_of p.event) e) in
          record {
            low = omega arith;
            high = omega arith;
            after = ap (λ (p : Stepped). p.core) e ∙ sym (ap (λ (xs : List ℕ). (station_after s xs).core) o);
            sent = es
                ∙ ap (λ (p : Stepped). set sent i p.sent) e
                ∙ sym (ap (λ (xs : List ℕ). sets sent i (sent_by s xs)) o);
            place = en ∙ sym (ap (λ (ws : List ℕ). n + length ws) w);
            words = ew ∙ sym (ap (sets words₀ n) w);
          }

  -- what a ms starts with, loaded already
  pub begin-stretch : (l : Loaded) → l ≡ settled c (get_or chars 0 0) → l.line.at < length (part_ms (mode_in c) l.line)
      → (d : Core) → d ≡ loaded_core c l
      → (x : Stretched) (sent₂ words₂ : List ℕ)
      → Stretches heard d (chars_after l.takes chars) sent words₀ i n x sent₂ words₂
      → Stretches heard c chars sent words₀ i n x sent₂ words₂
  begin-stretch l e m d ed x sent₂ words₂ t =
      let xs = between i x.at heard in
      let low = t.low in
      let size = between-length heard i x.at t.high in
      let left = chars_after l.takes chars in
      let s : station d left ≡ station (loaded_core c l) left = ap (λ (k : Core). station k left) ed in
      let burst = left-burst (mode_in c) l.line m in
      let a = loaded-alike c chars l e burst (left_over (mode_in c) l.line m) xs (omega arith) in
      let w : words_by (station d left) xs ≡ words_by (station c chars) xs =
      ap (λ (z : Station). words_by z xs) s ∙ sym a.words in
      record {
        low = low;
        high = t.high;
        after = t.after
            ∙ ap (λ (z : Station). (station_after z xs).core) s
            ∙ sym (ap (λ (z : Station). z.core) a.after);
        sent = t.sent ∙ ap (sets sent i) (ap (λ (z : Station). sent_by z xs) s ∙ sym a.sent);
        place = t.place ∙ ap (λ (ws : List ℕ). n + length ws) w;
        words = t.words ∙ ap (sets words₀ n) w;
      }

  -- ms that go alike
  walk-stretch : (to : ℕ) → i < to → to ≤ length heard → (d : Core) (levels : ℕ → ℕ)
      → Walk (station c chars) (between i to heard) (station d chars) levels
      → (sent' : List ℕ) → sent' ≡ sets sent i (tabulate levels (to - i) 0)
      → Stretches heard c chars sent words₀ i n (record { core = d; at = to; words = n }) sent' words₀
  walk-stretch to low high d levels w sent' es =
      let l = between-length heard i to high in
      let z = ap length w.words in
      record {
        low = low;
        high = high;
        after = sym (ap (λ (z : Station). z.core) w.after);
        sent = es ∙ sym (ap (sets sent i) (w.sent ∙ ap (λ (m : ℕ). tabulate levels m 0) l));
        place = omega arith;
        words = sym (ap (sets words₀ n) w.words);
      }

  module _ (to : ℕ) (low : i < to) (high : to ≤ length heard) (d : Core) (s : c.silence ≤ 300) where
    pub send-stretch : in_burst c.line ≡ true → is_over (mode_in c) c.line ≡ false
        → c.line.at + (to - i) ≤ length (part_ms (mode_in c) c.line)
        → d ≡ sent_for c (to - i)
        → (sent' : List ℕ) → sent' ≡ sets sent i (tabulate (part_level (mode_in c) c.line) (to - i) 0)
        → Stretches heard c chars sent words₀ i n (record { core = d; at = to; words = n }) sent' words₀
    send-stretch b f few e sent' es =
        let l = between-length heard i to high in
        let w = walk-to (part-walk c chars b (between i to heard) (omega arith) s f) (ap (sent_for c) l ∙ sym e) in
        walk-stretch to low high d (part_level (mode_in c) c.line) w sent' es

    pub wait-stretch : c.line.part ≡ 0 → to ≤ i + c.inhibited → (1 ≤ c.waiting → c.silence + (to - i) ≤ 300)
        → d ≡ deaf_for c (to - i)
        → (sent' : List ℕ) → sent' ≡ sets sent i (replicate (to - i) 0)
        → Stretches heard c chars sent words₀ i n (record { core = d; at = to; words = n }) sent' words₀
    wait-stretch p few free e sent' es =
        let l = between-length heard i to high in
        let xs = between i to heard in
        let w = deaf-walk c chars p xs (omega arith) s (λ (o : 1 ≤ c.waiting). let y = free o in omega arith) in
        let v = walk-to w (ap (deaf_for c) l ∙ sym e) in
        walk-stretch to low high d (λ (k : ℕ). 0) v sent' (es ∙ sym (ap (sets sent i) (level-same (to - i) 0 0)))

    pub listen-stretch : c.line.part ≡ 0 → c.inhibited ≡ 0 → (1 ≤ c.waiting → c.silence + (to - i) ≤ 300)
        → (silence : ℕ) → silence ≡ silence_over c.silence (between i to heard)
        → (r : Reader) → r ≡ reader_after (mode_in c) c.reader (between i to heard)
        → d ≡ listened c silence r
        → (sent' : List ℕ) → sent' ≡ sets sent i (replicate (to - i) 0)
        → (n' : ℕ) → n' ≡ n + length (words (mode_in c) c.reader (between i to heard))
        → (words' : List ℕ) → words' ≡ sets words₀ n (words (mode_in c) c.reader (between i to heard))
        → Stretches heard c chars sent words₀ i n (record { core = d; at = to; words = n' }) sent' words'
    unfolding listened
    listen-stretch p z free silence eq r er e sent' es n' en words' ew =
        let l = between-length heard i to high in
        let xs = between i to heard in
        let o = listens c chars p z c.silence c.reader xs
        (λ (w : 1 ≤ c.waiting). let y = free w in omega arith) in
        let f : d ≡ listened c (silence_over c.silence xs) (reader_after (mode_in c) c.reader xs) =
        e ∙ (λ j. listened c (eq j) (er j)) in
        record {
          low = low;
          high = high;
          after = f ∙ sym (ap (λ (z : Station). z.core) o.after);
          sent = es ∙ sym (ap (sets sent i) (o.sent ∙ ap (λ (m : ℕ). replicate m 0) l));
          place = en ∙ sym (ap (λ (ws : List ℕ). n + length ws) o.words);
          words = ew ∙ sym (ap (sets words₀ n) o.words);
        }
