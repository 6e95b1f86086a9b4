-- Whole codes of a burst, one after the other: for the loop that sends them.
use Rattle.std.specs.Prelude.{Option, Some, None}
use Rattle.alphabet.specs.declared.CharCode.{CharCode}
use mathlib.Core.Path.{◌≡◌, ◌∙◌, refl, sym, ap, subst}
use mathlib.Core.Bool.{Bool, true, false, cond, not, ◌&&◌, and-false, false≢true}
use mathlib.Core.List.{List, [], ◌∷◌, ◌++◌, append-nil}
use Prim.Native.Nat.{ℕ, zero, suc, ◌+◌, ◌-◌, ◌≤◌, ◌<◌}
use native.Mathlib.Omega.{arith}
use lib.Dec.{eqb, leb, ltb}
use lib.ListN.{length, get_or, take, drop, drop_of_length-le}
use lib.Seq.{sets, length-sets, drop-cons, drop-drop, take-add}
use borrow.Author.Tests.{leb-true, ltb-true, ltb-false, lt-ltb, le-leb, ne_eqb, eqb-true, eqb-false}
use Rattle.lists.specs.Tables.{tabulate}
use Rattle.lists.proofs.Lists.{sets-append, sets-front, either, either-by, and_left, and_right}
use Rattle.alphabet.specs.declared.Alphabet.{Alphabet}
use Rattle.alphabet.specs.declared.Mode.{Mode}
use Rattle.alphabet.specs.Modes.{alphabet_of, codes, longest}
use Rattle.alphabet.specs.Normal.{sends, is_code}
use Rattle.baudot.specs.declared.Sender.{Sender}
use Rattle.signal.specs.Signal.{signal}
use Rattle.signal.proofs.Lengths.{some-ms}
use Rattle.reader.specs.declared.Reader.{Reader}
use Rattle.half_duplex.specs.declared.Core.{Core}
use Rattle.burst.specs.declared.OnLine.{OnLine}
use Rattle.burst.specs.declared.Loaded.{Loaded}
use Rattle.burst.specs.Rules.{may_begin, may_end, opens_with_shift, opening_shift, shift_wanted}
use Rattle.burst.specs.Line.{further, on_line, in_burst, part_ms, is_over, loaded, code_begins, is_opening, next_code}
use Rattle.burst.specs.Line.{level_on, ended, closed}
use Rattle.half_duplex.specs.Core.{core, mode_in, settled, waiting_after}
use Rattle.baudot.specs.code.Bounds.{SenderIn}
use Rattle.burst.specs.code.Bounds.{SendsIn}
use Rattle.burst.specs.code.Next.{next_for, whole}
use Rattle.burst.proofs.Laws.{begun-same, waiting-next}
use Rattle.burst.proofs.Range.{blank-in, sends-in, begins-in, shift-starts, opening-in}
use Rattle.queue.proofs.Moves.{moved-by-length, moved-place}
use Rattle.queue.specs.Queue.{waits, all_wait, waiting_of, moved_by, in_range as queue_in}
use Rattle.station.specs.declared.Station.{Station}
use Rattle.station.specs.Station.{station, chars_after, queue_of, station_after, sent_by, words_by}
use Rattle.station.specs.Range.{in_range}
use Rattle.station.proofs.Range.{station-in, char-in}
use Rattle.station.proofs.Cuts.{cut}
use Rattle.station.proofs.Lengths.{sent-length}
use Rattle.station.proofs.Takings.{taken-after}
use Rattle.half_duplex_runs.specs.code.Cores.{silence_for, deaf_reader, burst_left, loaded_core, sent_for, coded_core}
use Rattle.station_stretches.specs.code.Stretches.{between, Stretches}
use Rattle.half_duplex_runs.proofs.Laws.{silence-full, silence-none, deaf_some, burst_some}
use Rattle.station_stretches.proofs.Laws.{left_over}
use Rattle.station_stretches.proofs.Joining.{between-length, begin-stretch, send-stretch}
use borrow.Rule.Slice.PartMut.{put_mid}
use Rattle.signal_runs.proofs.Filling.{part-set}
use Rattle.signal_runs.proofs.Elements.{short}
use Rattle.station.proofs.Cuts.{after_none, sent-none, words-none}

-- values that fill a list
pub sets-whole : (xs vs : List ℕ) → length xs ≡ length vs → sets xs 0 vs ≡ vs
sets-whole xs vs e =
    sets-front xs vs (omega arith) ∙ ap (λ (l : List ℕ). vs ++ l) (drop_of_length-le xs (omega arith))
    ∙ append-nil vs

-- ---- the characters that wait

-- each of those that wait is a character that waits
wait-at : (a : Alphabet) (n : ℕ) (cs : List ℕ) (k : ℕ) → k < n → k < length cs → all_wait a (take n cs) ≡ true
    → waits a (get_or cs k 0) ≡ true
unfolding all_wait
wait-at a zero cs k h l w = absurd (omega arith)
wait-at a (suc n) [] k h l w = absurd (omega arith)
wait-at a (suc n) (c ∷ cs) zero h l w = and_left (waits a c) (all_wait a (take n cs)) w
wait-at a (suc n) (c ∷ cs) (suc k) h l w =
    wait-at a n cs k (omega arith) (omega arith) (and_right (waits a c) (all_wait a (take n cs)) w)

-- ---- a core after more codes

silence-join : (s m n : ℕ) → silence_for (silence_for s m) n ≡ silence_for s (m + n)
silence-join s m n = go (ltb (s + m) 300) refl
  where
    go : (b : Bool) → ltb (s + m) 300 ≡ b → silence_for (cond b (s + m) 300) n ≡ silence_for s (m + n)
    go true e = let z : s + m + n ≡ s + (m + n) = omega arith in ap (λ (k : ℕ). cond (ltb k 300) k 300) z
    go false e =
        let h = ltb-false (s + m) 300 e in
        silence-full 300 n (omega arith) ∙ sym (silence-full s (m + n) (omega arith))

silence-most : (s n : ℕ) → silence_for s n ≤ 300
silence-most s n = go (ltb (s + n) 300) refl
  where
    go : (b : Bool) → ltb (s + n) 300 ≡ b → cond b (s + n) 300 ≤ 300
    go true e = let h = ltb-true (s + n) 300 e in omega arith
    go false e = omega arith

needed-after : (r : Reader) (m : ℕ) → (deaf_reader r m).keys.needed ≡ r.keys.needed - m
unfolding deaf_reader
needed-after r zero = omega arith
needed-after r (suc m) = refl

shift-after : (r : Reader) (m : ℕ) → (deaf_reader r m).shift ≡ r.shift
unfolding deaf_reader
shift-after r zero = refl
shift-after r (suc m) = refl

prefix-after : (r : Reader) (m : ℕ) → (deaf_reader r m).prefix ≡ r.prefix
unfolding deaf_reader
prefix-after r zero = refl
prefix-after r (suc m) = refl

deaf-join : (r : Reader) (m n : ℕ) → 1 ≤ n → deaf_reader (deaf_reader r m) n ≡ deaf_reader r (m + n)
unfolding deaf_reader
deaf-join r m zero h = absurd (omega arith)
deaf-join r m (suc n) h =
    let e = needed-after r m in
    let z : (deaf_reader r m).keys.needed - suc n ≡ r.keys.needed - (m + suc n) = omega arith in
    sym (deaf_some (deaf_reader r m) (suc n) h)
    ∙ (λ j. record {
      frame = record { place = 0; digits = 0 };
      keys = record { key = 0; ms = 0; needed = z j };
      shift = shift-after r m j;
      prefix = prefix-after r m j;
    })
    ∙ deaf_some r (m + suc n) (omega arith)

burst-join : (i m n : ℕ) → 1 ≤ n → burst_left (burst_left i m) n ≡ burst_left i (m + n)
burst-join i m n h = sym (burst_some (burst_left i m) n h) ∙ burst_some i (m + n) (omega arith)

-- those that are gone after one more code
waiting-join : (waiting taken gone : ℕ) (takes : Bool) → gone ≡ cond takes (taken + 1) taken
    → waiting_after takes (waiting - taken) ≡ waiting - gone
waiting-join waiting taken gone true e = omega arith
waiting-join waiting taken gone false e = omega arith

pub gone-few : (waiting taken gone : ℕ) (takes : Bool) → gone ≡ cond takes (taken + 1) taken → taken < waiting
    → gone ≤ waiting
gone-few waiting taken gone true e h = omega arith
gone-few waiting taken gone false e h = omega arith

no_length : (l : List ℕ) → length l ≡ 0 → l ≡ []
no_length [] e = refl
no_length (x ∷ l) e = absurd (omega arith)

-- a core after some codes, and one more
core-join : (c : Core) (taken : ℕ) (s : Sender) (line : OnLine) (m n : ℕ) (q : Loaded) → 1 ≤ n
    → (gone : ℕ) → gone ≡ cond q.takes (taken + 1) taken
    → sent_for (loaded_core (coded_core c taken s line m) q) n
    ≡ coded_core c gone q.sender (closed (mode_in c) (may_end (c.waiting - gone)) (further q.line n)) (m + n)
unfolding sent_for loaded_core coded_core
core-join c taken s line m n q h gone e =
    let w = waiting-join c.waiting taken gone q.takes e in
    λ j. core (w j)
    (silence-join c.silence m n j)
    (burst-join c.inhibited m n h j)
    (closed (mode_in c) (may_end (w j)) (further q.line n))
    q.sender
    (deaf-join c.reader m n h j)
    c.mode

-- ---- the code that begins

-- the code of q, from its first ms on
abbrev from_first : Loaded → Loaded
from_first q = loaded (on_line 2 q.line.code.0 0) q.sender q.takes

-- a code begins, and the sender stays in range
record Begins (mode : Mode) (q : Loaded) : Type 0 where
  is : q ≡ from_first q
  code-in : q.line.code.0 < codes (alphabet_of mode)
  sender-in : SenderIn q.sender

begins : (mode : Mode) (l : OnLine) (s : Sender) → SenderIn s → (x : Option CharCode) → is_code x ≡ true
    → SendsIn (alphabet_of mode) x → Begins mode (next_for (alphabet_of mode) l s x)
unfolding code_begins
begins mode l s j None e h = absurd (false≢true e)
begins mode l s j (Some x) e h =
    either-by (Begins mode) (is_opening a l && true)
    (λ o.
    let opens = and_right (eqb l.part 1) (opens_with_shift a) (and_left (is_opening a l) true o) in
    let i = shift-starts mode opens (opening_shift s) (opening-in s j.shift_in) in
    record { is = refl; code-in = i.line-in.code-in; sender-in = i.sender-in })
    (λ o.
    let i = begins-in mode (on_line 0 0 0) s (blank-in mode 0 (omega arith)) j (Some x) h in
    record {
      is = either (λ (q : Loaded). q ≡ from_first q) (eqb (shift_wanted a s x.shift) 0) _ _ refl refl;
      code-in = i.line-in.code-in;
      sender-in = i.sender-in;
    })
  where
    a : Alphabet
    a = alphabet_of mode

-- a list by its places
tabulate-drop : (xs : List ℕ) (n i : ℕ) → i + n ≡ length xs
    → tabulate (λ (k : ℕ). get_or xs (0 + k) 0) n i ≡ drop i xs
unfolding tabulate
tabulate-drop xs zero i h = let l : length xs ≤ i = omega arith in sym (drop_of_length-le xs l)
tabulate-drop xs (suc n) i h =
    let z : 0 + i ≡ i = omega arith in
    let others = tabulate-drop xs n (suc i) (omega arith) in
    (λ j. get_or xs (z j) 0 ∷ others j) ∙ sym (drop-cons xs i 0 (omega arith))

-- a code of the mode with all its ms sent, which have room
pub record Whole (mode : Mode) (room : ℕ) (q : Loaded) : Type 0 where
  pub code-in : q.line.code.0 < codes (alphabet_of mode)
  pub all_ms : q.line.at ≡ length (signal mode q.line.code.0)
  pub some : 0 < q.line.at
  pub fits : q.line.at ≤ room

begins-whole : (mode : Mode) (q : Loaded) → Begins mode q → (room : ℕ) → longest mode ≤ room
    → Whole mode room (whole mode q)
begins-whole mode q b room h =
    let w = (short mode q.line.code.0 b.code-in).longest in
    record { code-in = b.code-in; all_ms = refl; some = some-ms mode q.line.code.0; fits = omega arith }

-- ---- the loop

-- what the loop's test says
pub record Goes (taken waiting most room : ℕ) : Type 0 where
  pub more : taken < waiting
  pub fits : most ≤ room

pub goes : (taken waiting most room : ℕ) (b : Bool) → b ≡ (ltb taken waiting && leb most room) → b ≡ true
    → Goes taken waiting most room
goes taken waiting most room b e t =
    let x = ltb taken waiting in
    let y = leb most room in
    let h : (x && y) ≡ true = sym e ∙ t in
    record { more = ltb-true taken waiting (and_left x y h); fits = leb-true most room (and_right x y h) }

-- From the place i on whole codes have been sent, up to a place.
pub record Coded (heard chars sent₀ : List ℕ) (c : Core) (i : ℕ)
    (sent₁ : List ℕ) (taken : ℕ) (s : Sender) (line : OnLine) (at : ℕ) : Type 0 where
  pub low : i ≤ at
  pub high : at ≤ length heard
  pub few : taken ≤ c.waiting
  pub first : at ≡ i → taken ≡ 0
  pub size : length sent₁ ≡ length sent₀
  pub sender-in : SenderIn s
  pub over : taken < c.waiting → is_over (mode_in c) line ≡ true
  pub after : coded_core c taken s line (at - i) ≡ (station_after (station c chars) (between i at heard)).core
  pub sent : sent₁ ≡ sets sent₀ i (sent_by (station c chars) (between i at heard))
  pub words : words_by (station c chars) (between i at heard) ≡ []

module _ (heard chars sent₀ : List ℕ) (c : Core) (i : ℕ) (within : i ≤ length heard) where
  abbrev start : Station
  start = station c chars

  pub coded-start : SenderIn c.sender → c.silence ≤ 300 → is_over (mode_in c) c.line ≡ true
      → Coded heard chars sent₀ c i sent₀ 0 c.sender c.line i
  unfolding coded_core deaf_reader burst_left
  coded-start j h o =
      let n : between i i heard ≡ [] = let z : i - i ≡ 0 = omega arith in ap (λ (m : ℕ). take m (drop i heard)) z in
      let w : c.waiting - 0 ≡ c.waiting = omega arith in
      let z : i - i ≡ 0 = omega arith in
      let e = silence-none c.silence h in
      let none = ap (station_after start) n ∙ after_none start in
      record {
        low = omega arith;
        high = within;
        few = omega arith;
        first = λ (x : i ≡ i). refl;
        size = refl;
        sender-in = j;
        over = λ (x : 0 < c.waiting). o;
        after = ap (coded_core c 0 c.sender c.line) z
            ∙ (λ k. core (w k) (e k) c.inhibited c.line c.sender c.reader c.mode)
            ∙ sym (ap (λ (y : Station). y.core) none);
        sent = sym (ap (sets sent₀ i) (ap (sent_by start) n ∙ sent-none start));
        words = ap (words_by start) n ∙ words-none start;
      }

  module _ (ranged : in_range start ≡ true) (full : length chars ≡ 256)
      (sent₁ : List ℕ) (taken : ℕ) (s : Sender) (line : OnLine) (at : ℕ)
      (d : Coded heard chars sent₀ c i sent₁ taken s line at)
      (g : Goes taken c.waiting (longest (mode_in c)) (length heard - at)) where
    abbrev a : Alphabet
    a = alphabet_of (mode_in c)

    abbrev front : ℕ
    front = get_or chars taken 0

    here : taken < length chars
    here = let f = (station-in start ranged).core-in.waiting-in in omega arith

    char-waits : waits a front ≡ true
    unfolding queue_in
    char-waits =
        let q = (station-in start ranged).queue_ranged in
        let all = and_right (leb c.waiting 256) (all_wait a (waiting_of (queue_of start))) q in
        wait-at a c.waiting chars taken g.more here all

    pub char-in-range : front < 128
    char-in-range = char-in a front char-waits

    sends-one : is_code (sends a front) ≡ true
    sends-one = and_right (leb front 0x7f) (is_code (sends a front)) char-waits

    -- what begins
    abbrev begun : Loaded
    begun = next_for a line s (sends a front)

    begun-begins : Begins (mode_in c) begun
    begun-begins = begins (mode_in c) line s d.sender-in (sends a front) sends-one (sends-in a front char-in-range)

    begun-whole : Whole (mode_in c) (length heard - at) (whole (mode_in c) begun)
    begun-whole = begins-whole (mode_in c) begun begun-begins (length heard - at) g.fits

    pub q-whole : (q : Loaded) → q ≡ whole (mode_in c) begun → Whole (mode_in c) (length heard - at) q
    q-whole q e = subst (Whole (mode_in c) (length heard - at)) (sym e) begun-whole

    abbrev now : Core
    now = coded_core c taken s line (at - i)

    -- the station after the codes so far
    coded-station : station now (moved_by taken chars) ≡ station_after start (between i at heard)
    unfolding coded_core
    coded-station =
        let w = ap (λ (k : Core). k.waiting) d.after in
        let e : taken ≡ c.waiting - (station_after start (between i at heard)).core.waiting = omega arith in
        let moves = ap (λ (k : ℕ). moved_by k chars) e ∙ sym (taken-after start (between i at heard)).moves in
        λ j. station (d.after j) (moves j)

    -- the ms in which the code begins starts with it
    begun-settled : begun ≡ settled now (get_or (moved_by taken chars) 0 0)
    unfolding settled coded_core is_over
    begun-settled =
        let o = d.over g.more in
        let b : in_burst line ≡ true = and_left (in_burst line) (leb (length (part_ms (mode_in c) line)) line.at) o in
        let m = may_begin (c.waiting - taken) (silence_for c.silence (at - i)) in
        let t : (m && not (in_burst line)) ≡ false = rw (b, and-false) refl in
        let same : taken + 0 ≡ taken = omega arith in
        let there = moved-place taken chars 0 (omega (arith, here)) ∙ ap (λ (k : ℕ). get_or chars k 0) same in
        let x = get_or (moved_by taken chars) 0 0 in
        let left = c.waiting - taken in
        let one = subst (λ (y : ℕ). is_code (sends a y) ≡ true) (sym there) sends-one in
        sym (ap (λ (y : ℕ). next_for a line s (sends a y)) there)
        ∙ sym (waiting-next (mode_in c) left x line s o (λ (z : c.waiting - taken ≡ 0). omega arith) one)
        ∙ sym (ap (λ (y : OnLine). next_code (mode_in c) left x y s) (begun-same m line t))

    -- a turn sends the whole code q
    abbrev Turns : Loaded → Type 0
    Turns q =
        (sent' : List ℕ) → sent' ≡ sets sent₁ at (signal (mode_in c) q.line.code.0)
        → (taken' : ℕ) → taken' ≡ cond q.takes (taken + 1) taken
        → (line' : OnLine) → line' ≡ ended true (may_end (c.waiting - taken')) q.line
        → Coded heard chars sent₀ c i sent' taken' q.sender line' (at + q.line.at)

    -- the code k begins, with room for its ms
    module _ (k : ℕ) (s' : Sender) (takes : Bool) (j : SenderIn s')
        (e : loaded (on_line 2 k 0) s' takes ≡ settled now (get_or (moved_by taken chars) 0 0))
        (room : at + length (signal (mode_in c) k) ≤ length heard) where
      abbrev code : Loaded
      code = loaded (on_line 2 k 0) s' takes

      abbrev ms : ℕ
      ms = length (signal (mode_in c) k)

      more : 0 < length (part_ms (mode_in c) code.line)
      unfolding part_ms
      more = some-ms (mode_in c) k

      abbrev next : Core
      next = sent_for (loaded_core now code) ms

      stretch : (sent' : List ℕ) → sent' ≡ sets sent₁ at (signal (mode_in c) k)
          → Stretches heard now (moved_by taken chars) sent₁ [] at 0
          (record { core = next; at = at + ms; words = 0 }) sent' []
      unfolding loaded_core coded_core part_ms level_on
      stretch sent' es =
          let o = more in
          let n : ms ≡ at + ms - at = omega arith in
          let levels = sym (tabulate-drop (signal (mode_in c) k) (at + ms - at) 0 (omega arith)) in
          begin-stretch heard now (moved_by taken chars) sent₁ [] at 0 code e more (loaded_core now code) refl _ _ _
          (send-stretch heard (loaded_core now code) (chars_after takes (moved_by taken chars)) sent₁ [] at 0
          (at + ms) (omega arith) room next (silence-most c.silence (at - i)) refl
          (left_over (mode_in c) code.line more) (omega arith) (ap (sent_for (loaded_core now code)) n)
          sent' (es ∙ ap (sets sent₁ at) levels))

      together : between i (at + ms) heard ≡ between i at heard ++ between at (at + ms) heard
      together =
          let e₁ : at + ms - i ≡ (at - i) + (at + ms - at) = omega arith in
          let e₂ : i + (at - i) ≡ at = omega arith in
          let later = drop-drop (at - i) i heard ∙ ap (λ (m : ℕ). drop m heard) e₂ in
          ap (λ (m : ℕ). take m (drop i heard)) e₁
          ∙ take-add (at - i) (at + ms - at) (drop i heard)
          ∙ ap (λ (l : List ℕ). between i at heard ++ take (at + ms - at) l) later

      -- the code with all its ms sent
      abbrev over : OnLine
      over = on_line 2 k ms

      is-over : is_over (mode_in c) over ≡ true
      unfolding is_over part_ms
      is-over = le-leb ms ms (omega arith)

      -- behind it the burst ends where it is to end
      over_closed : (ends : Bool) → ended true ends over ≡ closed (mode_in c) ends (further code.line ms)
      unfolding closed
      over_closed ends =
          let n : ms ≡ 0 + ms = omega arith in
          sym (ap (λ (b : Bool). ended (b && true) ends over) is-over)
          ∙ ap (λ (m : ℕ). closed (mode_in c) ends (on_line 2 k m)) n

      not-ended : (taken' : ℕ) → taken' < c.waiting → ended true (may_end (c.waiting - taken')) over ≡ over
      unfolding may_end
      not-ended taken' x =
          rw (ne_eqb (c.waiting - taken') 0 (λ (z : c.waiting - taken' ≡ 0). omega arith)) refl

      over-turn : Turns (whole (mode_in c) code)
      unfolding part_ms
      over-turn sent' es taken' et line' el =
          let o = more in
          let t = stretch sent' es in
          let xs = between i at heard in
          let ys = between at (at + ms) heard in
          let both = cut start xs ys in
          let line = el ∙ over_closed (may_end (c.waiting - taken')) in
          let z : at + ms - i ≡ (at - i) + ms = omega arith in
          let f : coded_core c taken' s' line' (at + ms - i) ≡ next =
          (λ j. coded_core c taken' s' (line j) (z j)) ∙ sym (core-join c taken s _ (at - i) ms code o taken' et) in
          let b = coded-station in
          let size = between-length heard i at d.high in
          let sl = sent-length start xs in
          let sa : at ≡ i + length (sent_by start xs) = omega arith in
          record {
            low = omega arith;
            high = room;
            few = gone-few c.waiting taken taken' takes et g.more;
            first = λ (x : at + ms ≡ i). absurd (omega arith);
            size = ap length es ∙ length-sets sent₁ at (signal (mode_in c) k) ∙ d.size;
            sender-in = j;
            over = λ (x : taken' < c.waiting). ap (is_over (mode_in c)) (el ∙ not-ended taken' x) ∙ is-over;
            after = f
                ∙ t.after
                ∙ ap (λ (y : Station). (station_after y ys).core) b
                ∙ sym (ap (λ (y : Station). y.core) (ap (station_after start) together ∙ both.station));
            sent = t.sent
                ∙ (λ j. sets (d.sent j) (sa j) (sent_by (b j) ys))
                ∙ sym (sets-append sent₀ i (sent_by start xs) (sent_by (station_after start xs) ys))
                ∙ ap (sets sent₀ i) (sym both.sent ∙ sym (ap (sent_by start) together));
            words = ap (words_by start) together
                ∙ both.words
                ∙ (λ j. d.words j ++ words_by (sym b j) ys)
                ∙ no_length _ (omega arith);
          }

    pub coded-turn : (q : Loaded) → q ≡ whole (mode_in c) begun → Turns q
    coded-turn q e =
        let b = begun-begins in
        let w = begun-whole in
        subst Turns (sym (e ∙ ap (whole (mode_in c)) b.is))
        (over-turn _ _ _ b.sender-in (sym b.is ∙ begun-settled) (omega arith))

  -- a stretch of whole codes
  module _ (sent₁ : List ℕ) (taken : ℕ) (s : Sender) (line : OnLine) (at : ℕ)
      (d : Coded heard chars sent₀ c i sent₁ taken s line at) where
    -- at least one code is sent
    pub goes-far : (most : ℕ) (b : Bool) → b ≡ (ltb taken c.waiting && leb most (length heard - at)) → b ≡ false
        → 1 ≤ c.waiting → i + most ≤ length heard → i < at
    goes-far most b e stops w room = go (eqb at i) refl
      where
        go : (x : Bool) → eqb at i ≡ x → i < at
        go true f =
            let z = eqb-true at i f in
            let y = d.first z in
            let goes_on : (ltb taken c.waiting && leb most (length heard - at)) ≡ true =
            rw (lt-ltb taken c.waiting (omega arith), le-leb most (length heard - at) (omega arith)) refl in
            absurd (false≢true (sym stops ∙ e ∙ goes_on))
        go false f = let n = eqb-false at i f in let l = d.low in omega (arith, n)

    pub coded-stretch : i < at → (e : Core) → e ≡ coded_core c taken s line (at - i)
        → (n : ℕ) (words : List ℕ)
        → Stretches heard c chars sent₀ words i n (record { core = e; at = at; words = n }) sent₁ words
    coded-stretch low e ee n words =
        let z = ap length d.words in
        record {
          low = low;
          high = d.high;
          after = ee ∙ d.after;
          sent = d.sent;
          place = omega arith;
          words = sym (ap (sets words n) d.words);
        }

-- a turn of the loop, in the words of its code: the characters stand from a place on, and the mode has a name
module _ (heard cs sent₀ : List ℕ) (c : Core) (from i : ℕ) (within : i ≤ length heard)
    (ranged : in_range (station c (moved_by from cs)) ≡ true) (full : length cs ≡ 256) (lent : from + c.waiting ≤ 256)
    (sent₁ : List ℕ) (taken : ℕ) (s : Sender) (line : OnLine) (at : ℕ)
    (d : Coded heard (moved_by from cs) sent₀ c i sent₁ taken s line at)
    (mode : Mode) (mode-is : mode ≡ mode_in c) (most : ℕ) (most-is : most ≡ longest mode)
    (b : Bool) (be : b ≡ (ltb taken c.waiting && leb most (length heard - at))) (bt : b ≡ true) where
  all-there : length (moved_by from cs) ≡ 256
  all-there = moved-by-length from cs ∙ full

  test : Goes taken c.waiting (longest (mode_in c)) (length heard - at)
  test =
      subst (λ (n : ℕ). Goes taken c.waiting n (length heard - at)) (most-is ∙ ap longest mode-is)
      (goes taken c.waiting most (length heard - at) b be bt)

  char-at : get_or cs (from + taken) 0 ≡ get_or (moved_by from cs) taken 0
  char-at = let m = test.more in sym (moved-place from cs taken (omega arith))

  pub char-below : get_or cs (from + taken) 0 < 128
  char-below =
      subst (λ (x : ℕ). x < 128) (sym char-at)
      (char-in-range heard (moved_by from cs) sent₀ c i within ranged all-there sent₁ taken s line at d test)

  module _ (a : Alphabet) (a-is : a ≡ alphabet_of mode) (x : Option CharCode)
      (x-is : x ≡ sends a (get_or cs (from + taken) 0))
      (q : Loaded) (q-is : q ≡ whole mode (next_for a line s x)) where
    code-is : q ≡ whole (mode_in c)
        (next_for (alphabet_of (mode_in c)) line s
        (sends (alphabet_of (mode_in c)) (get_or (moved_by from cs) taken 0)))
    code-is =
        let e = a-is ∙ ap alphabet_of mode-is in
        let y = x-is ∙ (λ j. sends (e j) (char-at j)) in
        q-is ∙ (λ j. whole (mode-is j) (next_for (e j) line s (y j)))

    pub code-whole : Whole mode (length heard - at) q
    code-whole =
        subst (λ (m : Mode). Whole m (length heard - at) q) (sym mode-is)
        (q-whole heard (moved_by from cs) sent₀ c i within ranged all-there sent₁ taken s line at d test q code-is)

    pub code-turn : length heard ≤ length sent₁ → (new : List ℕ)
        → new ≡ sets (between at (at + q.line.at) sent₁) 0 (signal mode q.line.code.0)
        → (taken' : ℕ) → taken' ≡ cond q.takes (taken + 1) taken
        → (line' : OnLine) → line' ≡ ended true (may_end (c.waiting - taken')) q.line
        → Coded heard (moved_by from cs) sent₀ c i (put_mid at (at + q.line.at - at) sent₁ new) taken' q.sender line'
        (at + q.line.at)
    code-turn room new e taken' et line' el =
        let w = code-whole in
        let high = d.high in
        let fits = w.fits in
        let all = w.all_ms in
        let size = between-length sent₁ at (at + q.line.at) (omega arith) in
        let f = sets-whole (between at (at + q.line.at) sent₁) (signal mode q.line.code.0) (omega arith) in
        coded-turn heard (moved_by from cs) sent₀ c i within ranged all-there sent₁ taken s line at d test q code-is _
        (part-set sent₁ at (at + q.line.at) (omega arith) (omega arith) (signal mode q.line.code.0) new (omega arith)
        (e ∙ f)
        ∙ ap (λ (m : Mode). sets sent₁ at (signal m q.line.code.0)) mode-is) taken' et line' el
