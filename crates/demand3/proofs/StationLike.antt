-- The station in numbers goes with its model and reader: fresh, after an offer that succeeds, and ms by ms.
use mathlib.Core.Path.{◌≡◌, ◌∙◌, refl, sym, ap, subst}
use mathlib.Core.Bool.{Bool, true, false, cond, ◌&&◌}
use mathlib.Core.List.{List, [], ◌∷◌, ◌++◌}
use Prim.Native.Nat.{ℕ, zero, suc, ◌≤◌}
use native.Mathlib.Omega.{arith}
use native.Mathlib.Numerals.{add-one}
use lib.Dec.{eqb, leb, ltb}
use lib.ListN.{length, get_or, take, drop}
use lib.Seq.{length-take-le}
use borrow.Author.Tests.{eqb-true, eqb-false, leb-true, le-leb, ltb-true, ltb-false}
use Rattle.lists.proofs.Lists.{and_left, and_right}
use Rattle.alphabet.specs.declared.Mode.{Mode}
use Rattle.alphabet.specs.declared.Mode.TheVariants.{Baudot45, Baudot50, Dtmf, Edt}
use Rattle.alphabet.specs.Modes.{mode_number, mode_of, alphabet_of, highest_level}
use Rattle.alphabet.specs.Normal.{sends, is_code}
use Rattle.reader.specs.declared.Reader.{Reader}
use Rattle.reader.specs.Reader.{fresh}
use Rattle.burst.specs.declared.OnLine.{OnLine as Line}
use Rattle.burst.specs.declared.Loaded.{Loaded as LoadedLine}
use Rattle.burst.specs.Rules.{may_begin, may_end, inhibited_after, is_silent, is_inhibited}
use Rattle.burst.specs.Line as line
use Rattle.half_duplex.specs.Core as core
use Rattle.half_duplex.specs.Core.{reader_ms, event_ms, settled_by, core_from_by, waiting_after, settled, core_from}
use Rattle.half_duplex.proofs.Range.{takes-waiting-by}
use Rattle.queue.specs.Queue.{waits, waiters, waiting_of, taken}
use Rattle.queue.proofs.Laws.{waiting-offered, waiting-taken}
use Rattle.station.specs.declared.Station.{Station}
use Rattle.station.specs.declared.Measured.{Measured}
use Rattle.station.specs.Station.{mode_of_station, alphabet_of_station, queue_of, station, fresh_station, reader_offered}
use Rattle.station.specs.Station.{offered_to, front, chars_after, station_ms, sent_ms, event_of}
use Rattle.station.specs.Measured.{station_of, fresh_measured}
use Rattle.station.specs.Range.{in_range, measured_in}
use Rattle.station.specs.Entries.{answered, is_mode, open_of}
use Rattle.station.specs.code.Accepted.{Accepted}
use Rattle.station.proofs.Range.{core-in, front-waits, fresh_in, fresh-full, ms-in, ms-full}
use Rattle.station.proofs.Range.{waiting-count, number_in, offered-in, offered-full}
use Rattle.station.proofs.Kept.{open_in}
use Rattle.demand3.specs.Model.{Model, Loaded, fresh_model, offered, begun, next_code, load_by, in_burst, one_gone}
use Rattle.demand3.specs.Model.{closed, silence_after, begins_in, load, ends_in}
use Rattle.demand3.specs.Calls.{opened}
use Rattle.demand3.proofs.Told.{did_by, inhibited_by, ms_by, reader_by}
use Rattle.demand3.proofs.Stands.{Stands, no-burst, LoadedLike, Heads, none, some, burst-same, level-same}
use Rattle.demand3.proofs.Stands.{gone-stands, closed-stands, begun-stands, next_like}

-- the station's silence stops at 300: it is the model's, or both are at least 300
pub data Capped : ℕ → ℕ → Type 0 where
  same : (n : ℕ) → n ≤ 300 → Capped n n
  over : (n : ℕ) → 300 ≤ n → Capped n 300

capped-may : {n s : ℕ} → Capped n s → leb 300 n ≡ leb 300 s
capped-may (same n h) = refl
capped-may (over n h) = rw (le-leb 300 n h) refl

capped-next : {n s : ℕ} → Capped n s → Capped (suc n) (cond (ltb s 300) (suc s) s)
capped-next (same n h) = go (ltb n 300) refl
  where
    go : (b : Bool) → ltb n 300 ≡ b → Capped (suc n) (cond b (suc n) n)
    go true e = let l = ltb-true n 300 e in same (suc n) (omega arith)
    go false e =
        let l = ltb-false n 300 e in
        let z : n ≡ 300 = omega arith in
        subst (λ (k : ℕ). Capped (suc n) k) (sym z) (over (suc n) (omega arith))
capped-next (over n h) = over (suc n) (omega arith)

capped-after : (silent : Bool) {n s : ℕ} → Capped n s → Capped (silence_after silent n) (core.silence_after silent s)
unfolding core.silence_after
capped-after true c = rw add-one (capped-next c)
capped-after false c = same 0 (omega arith)

-- the station is as the model and the reader say
pub record Like (mode : Mode) (s : Station) (m : Model) (r : Reader) : Type 0 where
  pub ranged : in_range s ≡ true
  pub full : length s.chars ≡ 256
  pub mode_is : s.core.mode ≡ mode_number mode
  pub waiting-is : m.waiting ≡ waiting_of (queue_of s)
  pub line-is : Stands mode s.core.line m.on_line
  pub sender-is : s.core.sender ≡ m.sender
  pub silence_is : Capped m.silence s.core.silence
  pub inhibited_is : s.core.inhibited ≡ m.inhibited_ms
  pub reader-is : s.core.reader ≡ r

-- and so is one with the edges that wait in it, if they are in range
pub record Matches (mode : Mode) (x : Measured) (m : Model) (r : Reader) : Type 0 where
  pub ranged : measured_in x ≡ true
  pub like : Like mode (station_of x) m r

mode-of : (mode : Mode) → mode_of (mode_number mode) ≡ mode
mode-of Baudot45 = refl
mode-of Baudot50 = refl
mode-of Dtmf = refl
mode-of Edt = refl

heads : (mode : Mode) (n : ℕ) (cs : List ℕ) → n ≤ length cs
    → (1 ≤ n → is_code (sends (alphabet_of mode) (get_or cs 0 0)) ≡ true) → Heads mode n (get_or cs 0 0) (take n cs)
heads mode zero cs h w = none (get_or cs 0 0)
heads mode (suc n) [] h w = absurd (omega arith)
heads mode (suc n) (c ∷ cs) h w =
    let e = length-take-le n cs (omega arith) in
    subst (λ (k : ℕ). Heads mode (suc k) c (c ∷ take n cs)) e (some c (take n cs) (w (omega arith)))

-- a ms of a station that is told when a burst begins and ends
abbrev pub settled_of : Bool → Station → LoadedLine
settled_of begins s = settled_by begins s.core (front s)

abbrev pub station_by : Bool → Bool → Station → ℕ → Station
station_by begins ends s heard =
    let l = settled_of begins s in
    station (core_from_by ends s.core l heard) (chars_after l.takes s.chars)

module _ (mode : Mode) (s : Station) (m : Model) (r : Reader) (h : Like mode s m r) where
  pub mode-same : mode_of_station s ≡ mode
  mode-same = ap mode_of h.mode_is ∙ mode-of mode

  pub count_same : s.core.waiting ≡ length m.waiting
  count_same = sym (waiting-count s h.ranged h.full) ∙ ap length (sym h.waiting-is)

  front-sends : 1 ≤ s.core.waiting → is_code (sends (alphabet_of mode) (front s)) ≡ true
  front-sends o =
      let w = front-waits s h.full h.ranged o in
      and_right (leb (front s) 0x7f) (is_code (sends (alphabet_of mode) (front s)))
      (subst (λ (d : Mode). waits (alphabet_of d) (front s) ≡ true) mode-same w)

  heads-are : Heads mode s.core.waiting (front s) m.waiting
  heads-are =
      let n = s.core.waiting in
      let few = (core-in s h.ranged).waiting-in in
      let f = h.full in
      subst (Heads mode n (front s)) (sym h.waiting-is) (heads mode n s.chars (omega arith) front-sends)

  -- ---- a ms that is told when a burst begins and ends, whoever tells it
  module _ (begins : Bool) where
    abbrev x : LoadedLine
    x = settled_of begins s

    abbrev y : Loaded
    y = load_by begins mode m

    -- sending is settled
    settled-like : LoadedLike mode m.waiting x y
    settled-like =
        let c = s.core in
        let l = line.begun begins c.line in
        let on = begun mode begins m.on_line in
        subst (λ (z : LoadedLine). LoadedLike mode m.waiting z y)
        (λ i. line.next_code (sym mode-same i) c.waiting (front s) l c.sender)
        (subst (LoadedLike mode m.waiting (line.next_code mode c.waiting (front s) l c.sender))
        (ap (next_code mode m.waiting on) h.sender-is)
        (next_like mode c.sender heads-are (begun-stands mode begins h.line-is)))

    burst-is : line.in_burst x.line ≡ in_burst y.on_line
    burst-is = burst-same mode settled-like.line-is

    inhibited-same : is_inhibited (line.in_burst x.line) s.core.inhibited ≡ inhibited_by mode begins m
    unfolding inhibited_by
    inhibited-same = λ i. is_inhibited (burst-is i) (h.inhibited_is i)

    -- what is sent, what the ms ends in, those that wait after it
    pub sent-by : line.level_on (mode_of_station s) x.line ≡ (did_by mode begins m).sent
    unfolding did_by
    sent-by = ap (λ (d : Mode). line.level_on d x.line) mode-same ∙ level-same mode settled-like.line-is

    pub event-by : (heard : ℕ)
        → event_ms (mode_of_station s) (is_inhibited (line.in_burst x.line) s.core.inhibited) s.core.reader heard
        ≡ event_ms mode (inhibited_by mode begins m) r heard
    event-by heard = λ i. event_ms (mode-same i) (inhibited-same i) (h.reader-is i) heard

    waiting-after : (ends : Bool) (heard : ℕ) → y.waiting ≡ waiting_of (queue_of (station_by begins ends s heard))
    unfolding taken
    waiting-after ends heard = settled-like.waiting-is ∙ go x.takes refl
      where
        go : (b : Bool) → x.takes ≡ b
            → cond b (drop 1 m.waiting) m.waiting
            ≡ take (waiting_after b s.core.waiting) (chars_after b s.chars)
        go true e =
            let o = takes-waiting-by begins s.core (front s) e in
            let few = (core-in s h.ranged).waiting-in in
            ap (drop 1) h.waiting-is ∙ sym (waiting-taken (alphabet_of_station s) (queue_of s) h.full o few)
        go false e = h.waiting-is

    pub ms-like-by : (ends : Bool) (heard : ℕ)
        → in_range (station_by begins ends s heard) ≡ true → length (station_by begins ends s heard).chars ≡ 256
        → Like mode (station_by begins ends s heard) (ms_by mode begins ends m heard) (reader_by mode begins m r heard)
    unfolding ms_by inhibited_by
    ms-like-by ends heard i f =
        let inhibited = inhibited-same in
        let silent = is_silent (inhibited_by mode begins m) heard in
        record {
          ranged = i;
          full = f;
          mode_is = h.mode_is;
          waiting-is = waiting-after ends heard;
          line-is =
              subst (λ (l : Line). Stands mode l (closed mode ends (one_gone y.on_line)))
              (λ j. line.closed (sym mode-same j) ends (line.one_gone (sym mode-same j) x.line))
              (closed-stands mode ends (gone-stands mode settled-like.line-is));
          sender-is = settled-like.sender-is;
          silence_is =
              subst (λ (n : ℕ). Capped (silence_after silent m.silence) n)
              (λ j. core.silence_after (is_silent (sym inhibited j) heard) s.core.silence)
              (capped-after silent h.silence_is);
          inhibited_is = λ j. inhibited_after (burst-is j) (h.inhibited_is j);
          reader-is = λ j. reader_ms (mode-same j) (inhibited j) (h.reader-is j) heard;
        }

  -- ---- a ms of a station by itself: its rules tell it what the model's tell the model
  begins-same : core.begins_in s.core ≡ begins_in m
  unfolding may_begin
  begins-same = λ i. ltb 0 (count_same i) && sym (capped-may h.silence_is) i

  ends_same : (heard : ℕ) → in_range (station_ms s heard) ≡ true
      → core.ends_in s.core (settled s.core (front s)) ≡ ends_in mode m
  unfolding station_ms settled core_from load
  ends_same heard i =
      let b = core.begins_in s.core in
      let e = core.ends_in s.core (settled_of b s) in
      ap may_end
      (sym (waiting-count (station_ms s heard) i (ms-full s heard h.full)) ∙ ap length (sym (waiting-after b e heard))
      ∙ ap (λ (b : Bool). length (load_by b mode m).waiting) begins-same)

  module _ (heard : ℕ) where
    pub sent-same : sent_ms s heard ≡ (did_by mode (begins_in m) m).sent
    unfolding sent_ms settled
    sent-same = sent-by (core.begins_in s.core) ∙ ap (λ (b : Bool). (did_by mode b m).sent) begins-same

    pub event-same : event_of s heard ≡ event_ms mode (inhibited_by mode (begins_in m) m) r heard
    unfolding event_of settled
    event-same =
        event-by (core.begins_in s.core) heard
        ∙ ap (λ (b : Bool). event_ms mode (inhibited_by mode b m) r heard) begins-same

    abbrev LikeBy : Bool → Bool → Type 0
    LikeBy begins ends = Like mode (station_ms s heard) (ms_by mode begins ends m heard)
        (reader_by mode begins m r heard)

    pub ms-like : heard ≤ highest_level mode → LikeBy (begins_in m) (ends_in mode m)
    unfolding station_ms settled core_from
    ms-like l =
        let k = subst (λ (d : Mode). heard ≤ highest_level d) (sym mode-same) l in
        let i = ms-in s heard h.full h.ranged k in
        let b = core.begins_in s.core in
        let e = core.ends_in s.core (settled_of b s) in
        let told = ms-like-by b e heard i (ms-full s heard h.full) in
        subst (λ (begins : Bool). LikeBy begins (ends_in mode m)) begins-same
        (subst (LikeBy b) (ends_same heard i) told)

  -- an offer that succeeds
  pub offer-like : (cs : List ℕ) → Accepted s cs
      → Like mode (offered_to s cs) (offered mode cs m) (reader_offered (alphabet_of mode) cs r)
  unfolding offered_to offered
  offer-like cs t =
      let w = waiting-offered (alphabet_of_station s) (queue_of s) h.full cs t.space in
      record {
        ranged = offered-in s cs h.full t;
        full = offered-full s cs h.full;
        mode_is = h.mode_is;
        waiting-is = (λ i. h.waiting-is i ++ waiters (alphabet_of (sym mode-same i)) cs) ∙ sym w;
        line-is = h.line-is;
        sender-is = h.sender-is;
        silence_is = h.silence_is;
        inhibited_is = h.inhibited_is;
        reader-is = λ i. reader_offered (alphabet_of (mode-same i)) cs (h.reader-is i);
      }

-- ---- the opening

fresh-like : (mode : Mode) → Like mode (fresh_station (mode_number mode)) fresh_model fresh
unfolding fresh_station
fresh-like mode = record {
  ranged = fresh_in (mode_number mode) (number_in mode);
  full = fresh-full (mode_number mode);
  mode_is = refl;
  waiting-is = refl;
  line-is = no-burst;
  sender-is = refl;
  silence_is = same 300 (omega arith);
  inhibited_is = refl;
  reader-is = refl;
}

opened-is : (n : ℕ) → opened n ≡ fresh_measured (mode_number (mode_of n))
unfolding open_of
opened-is n = go (eqb n 2) (eqb n 3) (eqb n 4) refl refl refl
  where
    -- 1, or no mode's number
    first : (b : Bool) → is_mode n ≡ b → eqb n 2 ≡ false → eqb n 3 ≡ false → eqb n 4 ≡ false
        → (cond b (answered (fresh_measured n) 0) (answered (fresh_measured 1) 2)).station ≡ fresh_measured 1
    first true e p q r =
        let l = leb-true 1 n (and_left (leb 1 n) (leb n 4) e) in
        let h = leb-true n 4 (and_right (leb 1 n) (leb n 4) e) in
        let x = eqb-false n 2 p in
        let y = eqb-false n 3 q in
        let z = eqb-false n 4 r in
        let o : n ≡ 1 = omega arith in
        ap fresh_measured o
    first false e p q r = refl

    go : (a b c : Bool) → eqb n 2 ≡ a → eqb n 3 ≡ b → eqb n 4 ≡ c
        → opened n ≡ fresh_measured (mode_number (cond a Baudot50 (cond b Dtmf (cond c Edt Baudot45))))
    go true b c p q r = ap opened (eqb-true n 2 p)
    go false true c p q r = ap opened (eqb-true n 3 q)
    go false false true p q r = ap opened (eqb-true n 4 r)
    go false false false p q r = first (is_mode n) refl p q r

pub opened-matches : (n : ℕ) → Matches (mode_of n) (opened n) fresh_model fresh
opened-matches n = record {
  ranged = open_in n;
  like =
      subst (λ (x : Measured). Like (mode_of n) (station_of x) fresh_model fresh) (sym (opened-is n))
      (fresh-like (mode_of n));
}
