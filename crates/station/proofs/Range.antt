-- A station in range: what question 1 says in facts, and that every ms and every offer keeps it.
use mathlib.Core.Path.{◌≡◌, ◌∙◌, refl}
use mathlib.Core.Bool.{Bool, true, false, cond}
use mathlib.Core.List.{List, [], ◌∷◌}
use Prim.Native.Nat.{ℕ, zero, suc, ◌-◌, ◌<◌, ◌≤◌}
use native.Mathlib.Omega.{arith}
use lib.Dec.{leb}
use lib.ListN.{length, get_or, take, length-append, length-drop}
use lib.Seq.{length-sets, length-take-le}
use borrow.Author.Tests.{leb-true}
use Rattle.lists.specs.Lists.{all_at_most}
use Rattle.lists.specs.Steps.{state_after}
use Rattle.lists.proofs.Lists.{either, and_left, and_right, at-most-head, at-most-tail}
use Rattle.alphabet.specs.declared.Alphabet.{Alphabet}
use Rattle.alphabet.specs.declared.Alphabet.TheVariants.{Baudot, Dtmf as dtmf, Edt as edt}
use Rattle.alphabet.specs.declared.Mode.{Mode}
use Rattle.alphabet.specs.declared.Mode.TheVariants.{Baudot45, Baudot50, Dtmf, Edt}
use Rattle.alphabet.specs.Modes.{mode_number, highest_level}
use Rattle.alphabet.specs.Normal.{sends}
use Rattle.alphabet.specs.Normal.{is_code}
use Rattle.reader.specs.declared.Reader.{Reader}
use Rattle.reader.specs.Reader.{reader}
use Rattle.reader.specs.code.Bounds.{ReaderIn}
use Rattle.reader.proofs.Range as reader
use Rattle.burst.proofs.Range.{blank-in}
use Rattle.half_duplex.specs.Core.{settled, core_from}
use Rattle.half_duplex.specs.Range.{core_in}
use Rattle.half_duplex.specs.code.Bounds.{CoreIn}
use Rattle.half_duplex.proofs.Range as half
use Rattle.half_duplex.proofs.Range.{takes-waiting, core-after-in}
use Rattle.queue.specs.Queue.{Queue, queue, waits, waiters, all_wait, waiting_of, moved, offered, taken, in_range as queue_in}
use Rattle.queue.proofs.Laws as queue
use Rattle.station.specs.declared.Station.{Station}
use Rattle.station.specs.Station.{mode_of_station, alphabet_of_station, queue_of, fresh_station, has_del, reader_offered, offered_to, front, chars_after, station_ms, station_after}
use Rattle.station.specs.Range.{in_range}
use Rattle.station.specs.Entries.{is_mode}
use Rattle.station.specs.code.Accepted.{Accepted}

-- ---- question 1 in facts

-- the facts that question 1 stands for
pub record StationIn (s : Station) : Type 0 where
  pub core-in : CoreIn s.core
  pub mode_low : 1 ≤ s.core.mode
  pub mode_ranged : s.core.mode ≤ 4
  pub queue_ranged : queue_in (alphabet_of_station s) (queue_of s) ≡ true

few-wait : (a : Alphabet) (q : Queue) → queue_in a q ≡ true → q.waiting ≤ 256
unfolding queue_in
few-wait a q e = leb-true q.waiting 256 (and_left (leb q.waiting 256) (all_wait a (waiting_of q)) e)

pub station-in : (s : Station) → in_range s ≡ true → StationIn s
unfolding in_range
station-in s e =
    let q = queue_in (alphabet_of_station s) (queue_of s) in
    let c = and_left (core_in s.core) q e in
    let i = and_right (core_in s.core) q e in
    let t = half.core-timers s.core c in
    record {
      core-in = half.core-in s.core c (few-wait (alphabet_of_station s) (queue_of s) i);
      mode_low = t.mode_low;
      mode_ranged = t.mode_ranged;
      queue_ranged = i;
    }

pub station-is : (s : Station) → StationIn s → in_range s ≡ true
unfolding in_range
station-is s h = rw (half.core_is s.core h.mode_low h.mode_ranged h.core-in) h.queue_ranged

pub core-in : (s : Station) → in_range s ≡ true → CoreIn s.core
core-in s e = (station-in s e).core-in

-- ---- those that wait

module _ (s : Station) (i : in_range s ≡ true) where
  pub all-waiting : all_wait (alphabet_of_station s) (waiting_of (queue_of s)) ≡ true
  unfolding queue_in
  all-waiting =
      and_right (leb s.core.waiting 256) (all_wait (alphabet_of_station s) (waiting_of (queue_of s)))
      (station-in s i).queue_ranged

  -- as many as the number says
  pub waiting-count : length s.chars ≡ 256 → length (waiting_of (queue_of s)) ≡ s.core.waiting
  waiting-count full = let h = (core-in s i).waiting-in in length-take-le s.core.waiting s.chars (omega arith)

-- ---- the one in front

pub char-in : (a : Alphabet) (c : ℕ) → waits a c ≡ true → c < 128
char-in a c e = let h = leb-true c 0x7f (and_left (leb c 0x7f) (is_code (sends a c)) e) in omega arith

first-waits : (a : Alphabet) (n : ℕ) (cs : List ℕ) → 1 ≤ n → 1 ≤ length cs → all_wait a (take n cs) ≡ true
    → waits a (get_or cs 0 0) ≡ true
unfolding all_wait
first-waits a zero cs o l h = absurd (omega arith)
first-waits a (suc n) [] o l h = absurd (omega arith)
first-waits a (suc n) (c ∷ cs) o l h = and_left (waits a c) (all_wait a (take n cs)) h

module _ (s : Station) (full : length s.chars ≡ 256) (i : in_range s ≡ true) where
  abbrev a : Alphabet
  a = alphabet_of_station s

  pub front-waits : 1 ≤ s.core.waiting → waits a (front s) ≡ true
  front-waits o = first-waits a s.core.waiting s.chars o (omega arith) (all-waiting s i)

  pub front-in : 1 ≤ s.core.waiting → front s < 128
  front-in o = char-in a (front s) (front-waits o)

-- ---- a fresh station

pub fresh_in : (mode : ℕ) → is_mode mode ≡ true → in_range (fresh_station mode) ≡ true
unfolding fresh_station queue_in all_wait
fresh_in mode e =
    let s = fresh_station mode in
    station-is s
    (record {
      core-in = record {
        waiting-in = omega arith;
        silence_in = omega arith;
        inhibited-in = omega arith;
        line-in = blank-in (mode_of_station s) 0 (omega arith);
        sender-in = record { shift_in = omega arith; count_in = omega arith };
        reader-in = reader.fresh_in (mode_of_station s);
      };
      mode_low = leb-true 1 mode (and_left (leb 1 mode) (leb mode 4) e);
      mode_ranged = leb-true mode 4 (and_right (leb 1 mode) (leb mode 4) e);
      queue_ranged = refl;
    })

pub number_in : (mode : Mode) → is_mode (mode_number mode) ≡ true
number_in Baudot45 = refl
number_in Baudot50 = refl
number_in Dtmf = refl
number_in Edt = refl

pub fresh-full : (mode : ℕ) → length (fresh_station mode).chars ≡ 256
unfolding fresh_station
fresh-full mode = refl

-- ---- a ms

-- no mode has a level above 16
pub highest-16 : (mode : Mode) → highest_level mode ≤ 16
highest-16 Baudot45 = omega arith
highest-16 Baudot50 = omega arith
highest-16 Dtmf = omega arith
highest-16 Edt = omega arith

moved-full : (cs : List ℕ) → length cs ≡ 256 → length (moved cs) ≡ 256
moved-full cs h = simp (length-append, length-drop) (omega arith)

module _ (s : Station) (heard : ℕ) (full : length s.chars ≡ 256) where
  pub ms-full : length (station_ms s heard).chars ≡ 256
  unfolding station_ms
  ms-full =
      either (λ (cs : List ℕ). length cs ≡ 256) (settled s.core (front s)).takes
      (moved s.chars) s.chars (moved-full s.chars full) full

  queue-after : queue_in (alphabet_of_station s) (queue_of s) ≡ true
      → queue_in (alphabet_of_station s) (queue_of (station_ms s heard)) ≡ true
  unfolding station_ms core_from taken
  queue-after i = go (settled s.core (front s)).takes refl
    where
      go : (b : Bool) → (settled s.core (front s)).takes ≡ b
          → queue_in (alphabet_of_station s)
          (queue (cond b (s.core.waiting - 1) s.core.waiting) (chars_after b s.chars)) ≡ true
      go true e = queue.taken_in (alphabet_of_station s) (queue_of s) full (takes-waiting s.core (front s) e) i
      go false e = i

  pub ms-in : in_range s ≡ true → heard ≤ highest_level (mode_of_station s) → in_range (station_ms s heard) ≡ true
  unfolding station_ms core_from
  ms-in i h =
      let t = station-in s i in
      let m = highest-16 (mode_of_station s) in
      station-is (station_ms s heard)
      (record {
        core-in = core-after-in s.core (front s) heard (omega arith) (front-in s full i) t.core-in;
        mode_low = t.mode_low;
        mode_ranged = t.mode_ranged;
        queue_ranged = queue-after t.queue_ranged;
      })

-- the ms of a list
pub after-full : (s : Station) (heard : List ℕ) → length s.chars ≡ 256 → length (station_after s heard).chars ≡ 256
unfolding state_after
after-full s [] full = full
after-full s (x ∷ xs) full = after-full (station_ms s x) xs (ms-full s x full)

pub after-in : (s : Station) (heard : List ℕ) → length s.chars ≡ 256 → in_range s ≡ true
    → all_at_most (highest_level (mode_of_station s)) heard ≡ true → in_range (station_after s heard) ≡ true
unfolding state_after station_ms core_from
after-in s [] full i h = i
after-in s (x ∷ xs) full i h =
    let most = highest_level (mode_of_station s) in
    let next = ms-in s x full i (at-most-head most x xs h) in
    after-in (station_ms s x) xs (ms-full s x full) next (at-most-tail most x xs h)

-- ---- an offer

pub reader-offered-in : (mode : Mode) (a : Alphabet) (cs : List ℕ) (r : Reader) → ReaderIn mode r
    → ReaderIn mode (reader_offered a cs r)
reader-offered-in mode Baudot cs r h =
    either (ReaderIn mode) (has_del cs) (reader r.frame r.keys 1 r.prefix) r
    (record {
      frame-in = h.frame-in;
      keys_ranged = h.keys_ranged;
      shift_low = omega arith;
      shift_in = omega arith;
      prefix_in = h.prefix_in;
    })
    h
reader-offered-in mode dtmf cs r h = h
reader-offered-in mode edt cs r h = h

module _ (s : Station) (text : List ℕ) where
  pub offered-full : length s.chars ≡ 256 → length (offered_to s text).chars ≡ 256
  unfolding offered_to offered
  offered-full full = length-sets s.chars s.core.waiting (waiters (alphabet_of_station s) text) ∙ full

  pub offered-in : length s.chars ≡ 256 → Accepted s text → in_range (offered_to s text) ≡ true
  unfolding offered_to
  offered-in full t =
      let i = station-in s t.ranged in
      let c = i.core-in in
      let a = alphabet_of_station s in
      let q = queue.offered-in a (queue_of s) full text i.queue_ranged t.space in
      station-is (offered_to s text)
      (record {
        core-in = record {
          waiting-in = few-wait a (offered a (queue_of s) text) q;
          silence_in = c.silence_in;
          inhibited-in = c.inhibited-in;
          line-in = c.line-in;
          sender-in = c.sender-in;
          reader-in = reader-offered-in (mode_of_station s) a text s.core.reader c.reader-in;
        };
        mode_low = i.mode_low;
        mode_ranged = i.mode_ranged;
        queue_ranged = q;
      })
