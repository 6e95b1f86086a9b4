-- Ms that go alike: what they do one after the other.
use mathlib.Core.Path.{◌≡◌, ◌∙◌, refl, sym, ap}
use mathlib.Core.Bool.{Bool, true, false, cond, not, ◌&&◌, and-false}
use mathlib.Core.List.{List, [], ◌∷◌, ◌++◌}
use Prim.Native.Nat.{ℕ, zero, suc, ◌+◌, ◌-◌, ◌≤◌, ◌<◌}
use native.Mathlib.Omega.{arith}
use lib.Dec.{eqb, leb, ltb}
use lib.ListN.{length, take, replicate}
use borrow.Author.Tests.{eqb-true, eqb-false, lt-ltb, lt-leb, le-leb, eq-eqb, ltb-true, ltb-false}
use Rattle.lists.specs.Lists.{all_at_most}
use Rattle.lists.proofs.Lists.{and_left, and_right}
use Rattle.lists.specs.Tables.{tabulate}
use Rattle.lists.specs.Steps.{state_after, outputs}
use Rattle.alphabet.specs.declared.Mode.{Mode}
use Rattle.frames.specs.Frames.{hunting}
use Rattle.keys.specs.declared.Keys.{Keys}
use Rattle.keys.specs.Keys.{needs, key_step}
use Rattle.reader.specs.declared.Event.{Event}
use Rattle.reader.specs.declared.Event.TheVariants.{Nothing}
use Rattle.reader.specs.declared.Reader.{Reader}
use Rattle.reader.specs.Reader.{reader, hear, inhibited}
use Rattle.reader.specs.Words.{word_of, words_of, reader_after, words}
use Rattle.half_duplex.specs.declared.Core.{Core}
use Rattle.burst.specs.declared.OnLine.{OnLine}
use Rattle.burst.specs.declared.Loaded.{Loaded}
use Rattle.burst.specs.Rules.{may_begin, is_inhibited, is_silent, may_end}
use Rattle.burst.specs.Line.{further, on_line, in_burst, part_ms, is_over, loaded, next_code, level_on, one_gone, closed}
use Rattle.half_duplex.specs.Core.{core, silence_after, event_ms, mode_in, settled, core_from}
use Rattle.burst.proofs.Laws.{begun-same, level-over, not-over, gone-none, gone_one, stays-left}
use Rattle.station.specs.declared.Station.{Station}
use Rattle.station.specs.Station.{station, front, chars_after, station_ms, sent_ms, event_of, station_after, sent_by, words_by}
use Rattle.signal_runs.specs.code.Levels.{part_level}
use Rattle.half_duplex_runs.specs.code.Cores.{silence_for, silence_next, silence_over, deaf_reader, burst_left, loaded_core, sent_for, deaf_for, listened}
use Rattle.half_duplex_runs.proofs.Laws.{silence-none}

pub at-most-take : (m n : ℕ) (xs : List ℕ) → all_at_most m xs ≡ true → all_at_most m (take n xs) ≡ true
unfolding all_at_most
at-most-take m zero xs e = refl
at-most-take m (suc n) [] e = refl
at-most-take m (suc n) (x ∷ xs) e =
    let low = and_left (leb x m) (all_at_most m xs) e in
    rw low (at-most-take m n xs (and_right (leb x m) (all_at_most m xs) e))

-- ---- many ms that go alike

-- one ms in which nothing is read
pub record Step (s : Station) (x : ℕ) (t : Station) (level : ℕ) : Type 0 where
  pub after : station_ms s x ≡ t
  pub sent : sent_ms s x ≡ level
  pub event : event_of s x ≡ Nothing

pub record Walk (s : Station) (xs : List ℕ) (t : Station) (levels : ℕ → ℕ) : Type 0 where
  pub after : station_after s xs ≡ t
  pub sent : sent_by s xs ≡ tabulate levels (length xs) 0
  pub words : words_by s xs ≡ []

tabulate-later : (f : ℕ → ℕ) (n i : ℕ) → tabulate (λ (k : ℕ). f (suc k)) n i ≡ tabulate f n (suc i)
unfolding tabulate
tabulate-later f zero i = refl
tabulate-later f (suc n) i = ap (λ (l : List ℕ). f (suc i) ∷ l) (tabulate-later f n (suc i))

pub walk : (f : ℕ → Station) (levels : ℕ → ℕ) (xs : List ℕ)
    → ((k x : ℕ) → k < length xs → Step (f k) x (f (suc k)) (levels k)) → Walk (f 0) xs (f (length xs)) levels
unfolding state_after outputs words_of tabulate
walk f levels [] h = record { after = refl; sent = refl; words = refl }
walk f levels (x ∷ xs) h =
    let o = h 0 x (omega arith) in
    let w = walk (λ (k : ℕ). f (suc k)) (λ (k : ℕ). levels (suc k)) xs
    (λ (k y : ℕ) (g : k < length xs). h (suc k) y (omega arith)) in
    record {
      after = ap (λ (s : Station). station_after s xs) o.after ∙ w.after;
      sent = (λ j. o.sent j ∷ sent_by (o.after j) xs)
          ∙ ap (λ (l : List ℕ). levels 0 ∷ l) (w.sent ∙ tabulate-later levels (length xs) 0);
      words = (λ j. word_of (o.event j) ++ words_by (o.after j) xs) ∙ w.words;
    }

-- ---- sending is settled as it was

module _ (c : Core) (given : ℕ) where
  settled-by : (may_begin c.waiting c.silence && not (in_burst c.line)) ≡ false
      → is_over (mode_in c) c.line ≡ false → settled c given ≡ loaded c.line c.sender false
  unfolding settled
  settled-by e f =
      let same = begun-same (may_begin c.waiting c.silence) c.line e in
      ap (λ (l : OnLine). next_code (mode_in c) c.waiting given l c.sender) same
      ∙ not-over (mode_in c) c.waiting given c.line c.sender f

-- what is read in a ms, with this on the line
abbrev event_with : Core → OnLine → ℕ → Event
event_with c l x = event_ms (mode_in c) (is_inhibited (in_burst l) c.inhibited) c.reader x

-- one ms of a station whose sending is settled
record Settled (s : Station) (x : ℕ) : Type 0 where
  after : station_ms s x ≡ station (core_from s.core (loaded s.core.line s.core.sender false) x) s.chars
  sent : sent_ms s x ≡ level_on (mode_in s.core) s.core.line
  event : event_of s x ≡ event_with s.core s.core.line x

one-settled : (s : Station) (x : ℕ) → settled s.core (front s) ≡ loaded s.core.line s.core.sender false
    → Settled s x
unfolding station_ms sent_ms event_of
one-settled s x e = record {
  after = ap (λ (l : Loaded). station (core_from s.core l x) (chars_after l.takes s.chars)) e;
  sent = ap (λ (l : Loaded). level_on (mode_in s.core) l.line) e;
  event = ap (λ (l : Loaded). event_with s.core l.line x) e;
}

-- ---- what a ms starts with, loaded already

-- one ms of two stations that goes alike
record Same (s t : Station) (x : ℕ) : Type 0 where
  after : station_ms s x ≡ station_ms t x
  sent : sent_ms s x ≡ sent_ms t x
  event : event_of s x ≡ event_of t x

loaded-same : (c : Core) (chars : List ℕ) (l : Loaded) → l ≡ settled c (front (station c chars))
    → in_burst l.line ≡ true → is_over (mode_in c) l.line ≡ false
    → (x : ℕ) → Same (station c chars) (station (loaded_core c l) (chars_after l.takes chars)) x
unfolding station_ms sent_ms event_of core_from loaded_core
loaded-same c chars l e b f x =
    let d = loaded_core c l in
    let t : (may_begin d.waiting c.silence && not (in_burst l.line)) ≡ false = rw (b, and-false) refl in
    let o = one-settled (station d (chars_after l.takes chars)) x (settled-by d _ t f) in
    record {
      after = sym (ap (λ (k : Loaded). station (core_from c k x) (chars_after k.takes chars)) e) ∙ sym o.after;
      sent = sym (ap (λ (k : Loaded). level_on (mode_in c) k.line) e) ∙ sym o.sent;
      event = sym (ap (λ (k : Loaded). event_with c k.line x) e) ∙ sym o.event;
    }

pub record Alike (s t : Station) (xs : List ℕ) : Type 0 where
  pub after : station_after s xs ≡ station_after t xs
  pub sent : sent_by s xs ≡ sent_by t xs
  pub words : words_by s xs ≡ words_by t xs

pub loaded-alike : (c : Core) (chars : List ℕ) (l : Loaded) → l ≡ settled c (front (station c chars))
    → in_burst l.line ≡ true → is_over (mode_in c) l.line ≡ false
    → (xs : List ℕ) → 1 ≤ length xs
    → Alike (station c chars) (station (loaded_core c l) (chars_after l.takes chars)) xs
unfolding state_after outputs words_of
loaded-alike c chars l e b f [] h = absurd (omega arith)
loaded-alike c chars l e b f (x ∷ xs) h =
    let o = loaded-same c chars l e b f x in
    record {
      after = ap (λ (s : Station). station_after s xs) o.after;
      sent = λ j. o.sent j ∷ sent_by (o.after j) xs;
      words = λ j. word_of (o.event j) ++ words_by (o.after j) xs;
    }

-- ---- silence and reader

silence-more : (s n : ℕ) → silence_after true (silence_for s n) ≡ silence_for s (suc n)
unfolding silence_after
silence-more s n = go (ltb (s + n) 300) refl (ltb (s + suc n) 300) refl
  where
    go : (a : Bool) → ltb (s + n) 300 ≡ a → (b : Bool) → ltb (s + suc n) 300 ≡ b
        → silence_after true (cond a (s + n) 300) ≡ cond b (s + suc n) 300
    go true e true f = rw e (omega arith)
    go true e false f = let h = ltb-false (s + suc n) 300 f in let g = ltb-true (s + n) 300 e in rw e (omega arith)
    go false e true f = let h = ltb-true (s + suc n) 300 f in let g = ltb-false (s + n) 300 e in absurd (omega arith)
    go false e false f = refl

keys-quiet : (k : Keys) → (key_step k 0).keys ≡ needs (k.needed - 1)
unfolding key_step
keys-quiet k = go (eqb k.needed 0) refl
  where
    go : (b : Bool) → eqb k.needed 0 ≡ b → (key_step k 0).keys ≡ needs (k.needed - 1)
    go true e = let z = eqb-true k.needed 0 e in rw e (ap needs (omega arith))
    go false e = rw e refl

reader-more : (r : Reader) (n : ℕ) → inhibited (deaf_reader r n) ≡ deaf_reader r (suc n)
unfolding inhibited deaf_reader
reader-more r zero = rw keys-quiet refl
reader-more r (suc n) =
    rw (keys-quiet (needs (r.keys.needed - suc n)))
    (ap (λ (m : ℕ). reader hunting (needs m) r.shift r.prefix) (omega arith))

-- ---- no burst

module _ (l : OnLine) (e : l.part ≡ 0) where
  no-burst : in_burst l ≡ false
  no-burst = ap not (eq-eqb l.part 0 e)

  module _ (mode : Mode) where
    no-ms : length (part_ms mode l) ≡ 0
    unfolding part_ms
    no-ms = rw e refl

    idle-over : is_over mode l ≡ false
    unfolding is_over
    idle-over = rw no-burst refl

    idle-level : level_on mode l ≡ 0
    idle-level = level-over mode l (let z = no-ms in omega arith)

    idle-stays : (ends : Bool) → closed mode ends (one_gone mode l) ≡ l
    idle-stays ends =
        let z = no-ms in
        ap (closed mode ends) (gone-none mode l (omega arith)) ∙ stays-left mode l ends idle-over

may-not : (waiting silence : ℕ) → (1 ≤ waiting → silence < 300) → may_begin waiting silence ≡ false
unfolding may_begin
may-not waiting silence h = go (ltb 0 waiting) refl
  where
    go : (b : Bool) → ltb 0 waiting ≡ b → (b && leb 300 silence) ≡ false
    go true e = let o = ltb-true 0 waiting e in lt-leb 300 silence (h (omega arith))
    go false e = refl

silence-below : (s n : ℕ) → s + n < 300 → silence_for s n < 300
silence-below s n h = rw (lt-ltb (s + n) 300 h) h

idle-settled : (c : Core) (given : ℕ) → c.line.part ≡ 0 → (1 ≤ c.waiting → c.silence < 300)
    → settled c given ≡ loaded c.line c.sender false
idle-settled c given e h =
    settled-by c given (rw (may-not c.waiting c.silence h) refl) (idle-over c.line e (mode_in c))

-- ---- inhibited ms

-- silence and reader of a core after a ms, inhibited or not
abbrev silence_with : Bool → ℕ → ℕ → ℕ
silence_with deaf s x = silence_after (is_silent deaf x) s

abbrev reader_with : Mode → Bool → Reader → ℕ → Reader
reader_with mode deaf r x = cond deaf (inhibited r) (hear mode r x).reader

module _ (deaf : Bool) (t : deaf ≡ true) (k x : ℕ) where
  silence-deaf : (s : ℕ) → silence_with deaf (silence_for s k) x ≡ silence_for s (suc k)
  silence-deaf s = rw t (silence-more s k)

  reader-deaf : (mode : Mode) (r : Reader) → reader_with mode deaf (deaf_reader r k) x ≡ deaf_reader r (suc k)
  reader-deaf mode r = rw t (reader-more r k)

-- ---- inhibited ms in no burst

module _ (c : Core) (chars : List ℕ) (e : c.line.part ≡ 0) where
  deaf-step : (k x : ℕ) → k < c.inhibited → (1 ≤ c.waiting → c.silence + k < 300)
      → Step (station (deaf_for c k) chars) x (station (deaf_for c (suc k)) chars) 0
  unfolding deaf_for core_from
  deaf-step k x h w =
      let d = deaf_for c k in
      let b = no-burst c.line e in
      let deaf = is_inhibited (in_burst c.line) (c.inhibited - k) in
      let t : deaf ≡ true = rw (b, lt-ltb 0 (c.inhibited - k) (omega arith)) refl in
      let o = one-settled (station d chars) x
      (idle-settled d _ e (λ (q : 1 ≤ c.waiting). silence-below c.silence k (w q))) in
      let silence = silence-deaf deaf t k x c.silence in
      let left : cond (in_burst c.line) 300 (c.inhibited - k - 1) ≡ c.inhibited - suc k = rw b (omega arith) in
      let line = idle-stays c.line e (mode_in c) (may_end c.waiting) in
      let reader = reader-deaf deaf t k x (mode_in c) c.reader in
      record {
        after = o.after
            ∙ (λ j. station (core c.waiting (silence j) (left j) (line j) c.sender (reader j) c.mode) chars);
        sent = o.sent ∙ idle-level c.line e (mode_in c);
        event = o.event ∙ (rw t refl);
      }

  deaf-none : c.silence ≤ 300 → deaf_for c 0 ≡ c
  unfolding deaf_for deaf_reader
  deaf-none h =
      let s = silence-none c.silence h in
      let z : c.inhibited - 0 ≡ c.inhibited = omega arith in
      λ j. core c.waiting (s j) (z j) c.line c.sender c.reader c.mode

  pub deaf-walk : (xs : List ℕ) → length xs ≤ c.inhibited → c.silence ≤ 300
      → (1 ≤ c.waiting → c.silence + length xs ≤ 300)
      → Walk (station c chars) xs (station (deaf_for c (length xs)) chars) (λ (k : ℕ). 0)
  deaf-walk xs h s w =
      let go : Walk (station (deaf_for c 0) chars) xs (station (deaf_for c (length xs)) chars) (λ (k : ℕ). 0) =
      walk (λ (k : ℕ). station (deaf_for c k) chars) (λ (k : ℕ). 0) xs
      (λ (k x : ℕ) (g : k < length xs).
      deaf-step k x (omega arith) (λ (q : 1 ≤ c.waiting). let r = w q in omega arith)) in
      rw deaf-none at go

-- ---- the ms of a part

module _ (mode : Mode) (l : OnLine) (h : l.at < length (part_ms mode l)) where
  pub left-burst : in_burst l ≡ true
  left-burst = go (eqb l.part 0) refl
    where
      go : (b : Bool) → eqb l.part 0 ≡ b → not b ≡ true
      go true e = let z = no-ms l (eqb-true l.part 0 e) mode in absurd (omega arith)
      go false e = refl

  -- it is over when all are gone
  pub gone-over : (n left : ℕ) → l.at + left ≡ length (part_ms mode l) → n ≤ left
      → eqb n left ≡ is_over mode (further l n)
  unfolding is_over part_ms
  gone-over n left e few =
      go (eqb n left) refl ∙ sym (ap (λ (b : Bool). b && leb (length (part_ms mode l)) (l.at + n)) left-burst)
    where
      go : (b : Bool) → eqb n left ≡ b → b ≡ leb (length (part_ms mode l)) (l.at + n)
      go true f = let z = eqb-true n left f in sym (le-leb (length (part_ms mode l)) (l.at + n) (omega arith))
      go false f = let z = eqb-false n left f in sym (lt-leb (length (part_ms mode l)) (l.at + n) (omega (arith, z)))

  pub left_over : is_over mode l ≡ false
  unfolding is_over
  left_over = rw (lt-leb (length (part_ms mode l)) l.at h, and-false) refl

module _ (mode : Mode) (l : OnLine) (k : ℕ) (h : l.at + k < length (part_ms mode l)) where
  further-left : is_over mode (further l k) ≡ false
  unfolding is_over part_ms
  further-left = rw (lt-leb (length (part_ms mode l)) (l.at + k) h, and-false) refl

  further-stays : (ends : Bool) → closed mode ends (further l k) ≡ further l k
  further-stays ends = stays-left mode (further l k) ends further-left

  further-gone : one_gone mode (further l k) ≡ further l (suc k)
  unfolding part_ms
  further-gone = gone_one mode (further l k) h ∙ ap (on_line l.part l.code.0) (omega arith)

module _ (c : Core) (chars : List ℕ) (b : in_burst c.line ≡ true) where
  -- the core after some ms of the part, with this on the line
  abbrev with-line : ℕ → OnLine → Core
  with-line k l =
      let silence = silence_for c.silence k in
      core c.waiting silence (burst_left c.inhibited k) l c.sender (deaf_reader c.reader k) c.mode

  -- what is on the line has ms left, so that it is not closed
  part_step : (k x : ℕ) → c.line.at + k < length (part_ms (mode_in c) c.line)
      → Step (station (sent_for c k) chars) x
      (station (sent_for c (suc k)) chars) (level_on (mode_in c) (further c.line k))
  unfolding sent_for core_from burst_left
  part_step k x h =
      let mode = mode_in c in
      let stays = further-stays mode c.line k h (may_end c.waiting) in
      let d = with-line k (further c.line k) in
      let same : sent_for c k ≡ d = ap (with-line k) stays in
      let may = may_begin c.waiting (silence_for c.silence k) in
      let t : (may && not (in_burst c.line)) ≡ false = rw (b, and-false) refl in
      let o = one-settled (station d chars) x (settled-by d _ t (further-left mode c.line k h)) in
      let deaf = is_inhibited (in_burst c.line) (burst_left c.inhibited k) in
      let always : deaf ≡ true = rw b refl in
      let silence = silence-deaf deaf always k x c.silence in
      let left : cond (in_burst c.line) 300 (burst_left c.inhibited k - 1) ≡ 300 = rw b refl in
      let line = ap (closed mode (may_end c.waiting)) (further-gone mode c.line k h) in
      let reader = reader-deaf deaf always k x mode c.reader in
      let level = level_on mode (further c.line k) in
      let step : Step (station d chars) x (station (sent_for c (suc k)) chars) level = record {
        after = o.after
            ∙ (λ j. station (core c.waiting (silence j) (left j) (line j) c.sender (reader j) c.mode) chars);
        sent = o.sent;
        event = o.event ∙ (rw b refl);
      } in
      rw same step

  part_none : c.silence ≤ 300 → is_over (mode_in c) c.line ≡ false → sent_for c 0 ≡ c
  unfolding sent_for deaf_reader burst_left
  part_none h f =
      let s = silence-none c.silence h in
      let z : c.line.at + 0 ≡ c.line.at = omega arith in
      let ends = may_end c.waiting in
      let p = ap (λ (m : ℕ). closed (mode_in c) ends (on_line c.line.part c.line.code.0 m)) z
      ∙ stays-left (mode_in c) c.line ends f in
      λ j. core c.waiting (s j) c.inhibited (p j) c.sender c.reader c.mode

  pub part-walk : (xs : List ℕ) → c.line.at + length xs ≤ length (part_ms (mode_in c) c.line) → c.silence ≤ 300
      → is_over (mode_in c) c.line ≡ false
      → Walk (station c chars) xs (station (sent_for c (length xs)) chars) (part_level (mode_in c) c.line)
  part-walk xs v s f =
      let levels = part_level (mode_in c) c.line in
      let go : Walk (station (sent_for c 0) chars) xs (station (sent_for c (length xs)) chars) levels =
      walk (λ (k : ℕ). station (sent_for c k) chars) levels xs
      (λ (k x : ℕ) (g : k < length xs). part_step k x (omega arith)) in
      rw part_none at go

-- ---- ms that the receiver hears

pub record Listens (c : Core) (chars : List ℕ) (silence : ℕ) (r : Reader) (xs : List ℕ) : Type 0 where
  pub after : station_after (station (listened c silence r) chars) xs
      ≡ station (listened c (silence_over silence xs) (reader_after (mode_in c) r xs)) chars
  pub sent : sent_by (station (listened c silence r) chars) xs ≡ replicate (length xs) 0
  pub words : words_by (station (listened c silence r) chars) xs ≡ words (mode_in c) r xs

silence-less : (silent : Bool) (s : ℕ) → silence_after silent s ≤ s + 1
unfolding silence_after
silence-less true s = go (ltb s 300)
  where
    go : (b : Bool) → cond b (s + 1) s ≤ s + 1
    go true = omega arith
    go false = omega arith
silence-less false s = omega arith

module _ (c : Core) (chars : List ℕ) (e : c.line.part ≡ 0) (i : c.inhibited ≡ 0) where
  record Hears (silence : ℕ) (r : Reader) (x : ℕ) : Type 0 where
    after : station_ms (station (listened c silence r) chars) x
        ≡ station (listened c (silence_next silence x) (hear (mode_in c) r x).reader) chars
    sent : sent_ms (station (listened c silence r) chars) x ≡ 0
    event : event_of (station (listened c silence r) chars) x ≡ (hear (mode_in c) r x).event

  hears : (silence : ℕ) (r : Reader) (x : ℕ) → (1 ≤ c.waiting → silence < 300) → Hears silence r x
  unfolding listened core_from
  hears silence r x w =
      let d = listened c silence r in
      let b = no-burst c.line e in
      let deaf = is_inhibited (in_burst c.line) c.inhibited in
      let t : deaf ≡ false = rw (b, i) refl in
      let o = one-settled (station d chars) x (idle-settled d _ e w) in
      let s : silence_with deaf silence x ≡ silence_next silence x = rw t refl in
      let left : cond (in_burst c.line) 300 (c.inhibited - 1) ≡ c.inhibited = rw b (omega arith) in
      let line = idle-stays c.line e (mode_in c) (may_end c.waiting) in
      let q : reader_with (mode_in c) deaf r x ≡ (hear (mode_in c) r x).reader = rw t refl in
      record {
        after = o.after ∙ (λ j. station (core c.waiting (s j) (left j) (line j) c.sender (q j) c.mode) chars);
        sent = o.sent ∙ idle-level c.line e (mode_in c);
        event = o.event ∙ (rw t refl);
      }

  pub listens : (silence : ℕ) (r : Reader) (xs : List ℕ) → (1 ≤ c.waiting → silence + length xs ≤ 300)
      → Listens c chars silence r xs
  unfolding state_after outputs words_of
  listens silence r [] w = record { after = refl; sent = refl; words = refl }
  listens silence r (x ∷ xs) w =
      let o = hears silence r x (λ (q : 1 ≤ c.waiting). let z = w q in omega arith) in
      let z = silence-less (is_silent false x) silence in
      let l = listens (silence_next silence x) (hear (mode_in c) r x).reader xs
      (λ (q : 1 ≤ c.waiting). let y = w q in omega arith) in
      record {
        after = ap (λ (s : Station). station_after s xs) o.after ∙ l.after;
        sent = (λ j. o.sent j ∷ sent_by (o.after j) xs) ∙ ap (λ (y : List ℕ). 0 ∷ y) l.sent;
        words = (λ j. word_of (o.event j) ++ words_by (o.after j) xs)
            ∙ ap (λ (y : List ℕ). word_of (hear (mode_in c) r x).event ++ y) l.words;
      }
