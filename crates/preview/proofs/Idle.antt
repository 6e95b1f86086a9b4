-- Each ms of a quiet line lowers by one the ms that are left to a station, until it is idle.
use mathlib.Core.Path.{◌≡◌, ◌∙◌, refl, sym, ap, subst}
use mathlib.Core.Bool.{Bool, true, false, cond, and-false, or-true}
use mathlib.Core.List.{List}
use Prim.Native.Nat.{ℕ, zero, suc, ◌+◌, ◌-◌, ◌≤◌, ◌<◌}
use native.Mathlib.Omega.{arith}
use lib.Dec.{eqb, leb, ltb}
use lib.Seq.{get_or-take}
use lib.ListN.{length, get_or, take, drop, length-replicate}
use borrow.Author.Tests.{not-false, eqb-true, eqb-false, ne_eqb, leb-true, leb-false, ltb-true, lt-ltb}
use Rattle.lists.specs.Steps.{state_after}
use Rattle.lists.proofs.Lists.{either-by, by-test, and_left, and_right}
use Rattle.alphabet.specs.declared.Mode.{Mode}
use Rattle.alphabet.specs.Modes.{alphabet_of, preamble_of}
use Rattle.signal.specs.Signal.{quiet, mark}
use Rattle.burst.specs.declared.OnLine.{OnLine}
use Rattle.burst.specs.declared.Loaded.{Loaded}
use Rattle.burst.specs.Rules.{free_ms, may_begin, may_end, is_inhibited, is_silent}
use Rattle.burst.specs.Line.{on_line, in_burst, part_ms, is_over, begun}
use Rattle.burst.specs.Line.{next_code, one_gone, closed}
use Rattle.burst.proofs.Laws as line
use Rattle.burst.proofs.Laws.{begun-same, begun_first}
use Rattle.burst.proofs.Range.{next-takes}
use Rattle.half_duplex.specs.Core.{settled, core_from, waiting_after, silence_after}
use Rattle.queue.specs.Queue.{waiting_of, taken}
use Rattle.queue.proofs.Laws.{waiting-taken}
use Rattle.station.specs.declared.Station.{Station}
use Rattle.station.specs.Station.{mode_of_station, queue_of, front, chars_after, station_ms, station_after}
use Rattle.station.specs.Range.{in_range}
use Rattle.station.proofs.Range.{core-in, all-waiting, waiting-count, ms-in, ms-full}
use Rattle.preview.specs.Preview.{is_idle, quiet_for, IdleIn}
use Rattle.preview.specs.code.Count.{behind_ms, part_left, ahead_ms, some_ms, left_of, ms_left}
use Rattle.preview.proofs.Lowers.{burst_left, some_is, left-burst, some-behind, burst-lowers}

-- ---- one ms of a station

pub no_part : (mode : Mode) (l : OnLine) → in_burst l ≡ false → length (part_ms mode l) ≡ 0
unfolding part_ms
no_part mode l e = let z = eqb-true l.part 0 (not-false (eqb l.part 0) e) in rw z refl

pub no-over : (mode : Mode) (l : OnLine) → in_burst l ≡ false → is_over mode l ≡ false
unfolding is_over
no-over mode l e = rw e refl

-- in no burst, where none begins: the line becomes free, or none waits
module _ (n silence : ℕ) where
  some-wait : may_begin n silence ≡ true → eqb n 0 ≡ false
  unfolding may_begin
  some-wait may =
      let h = ltb-true 0 n (and_left (ltb 0 n) (leb free_ms silence) may) in
      ne_eqb n 0 (λ z. omega arith)

  free : may_begin n silence ≡ true → free_ms ≤ silence
  unfolding may_begin
  free may = leb-true free_ms silence (and_right (ltb 0 n) (leb free_ms silence) may)

  not_free : eqb n 0 ≡ false → may_begin n silence ≡ false → silence < free_ms
  unfolding may_begin
  not_free e may =
      let z = eqb-false n 0 e in
      leb-false free_ms silence (rw (lt-ltb 0 n (omega (arith, z))) at may)

some-less : (m n : ℕ) → 1 ≤ m → n ≡ m + 1 → some_ms m ≡ some_ms n - 1
some-less m n h e = some_is m h ∙ (omega arith) ∙ sym (ap (λ (k : ℕ). k - 1) (some_is n (omega arith)))

module _ (s : Station) (full : length s.chars ≡ 256) (i : in_range s ≡ true) where
  abbrev mode : Mode
  mode = mode_of_station s

  abbrev l : OnLine
  l = s.core.line

  abbrev n : ℕ
  n = s.core.waiting

  abbrev silence : ℕ
  silence = s.core.silence

  abbrev cs : List ℕ
  cs = waiting_of (queue_of s)

  few : n ≤ 256
  few = (core-in s i).waiting-in

  cs-length : length cs ≡ n
  cs-length = waiting-count s i full

  front-first : 1 ≤ length cs → front s ≡ get_or cs 0 0
  front-first o = let e = cs-length in sym (get_or-take n s.chars 0 0 (omega arith))

  -- what is left after a ms that starts with q
  abbrev silence_by : Loaded → ℕ
  silence_by q = silence_after (is_silent (is_inhibited (in_burst q.line) s.core.inhibited) quiet) silence

  abbrev After : Loaded → ℕ
  After q =
      let m = waiting_after q.takes n in
      left_of mode (closed mode (may_end m) (one_gone mode q.line)) q.sender m (silence_by q)
      (take m (chars_after q.takes s.chars))

  -- those that wait then
  left-chars : (takes : Bool) → (takes ≡ true → 1 ≤ n)
      → take (waiting_after takes n) (chars_after takes s.chars) ≡ cond takes (drop 1 cs) cs
  unfolding taken
  left-chars true o = waiting-taken (alphabet_of mode) (queue_of s) full (o refl) few
  left-chars false o = refl

  abbrev Lower : Loaded → Type 0
  Lower q = After q ≡ ms_left s - 1

  abbrev From : OnLine → Type 0
  From k = Lower (next_code mode n (front s) k s.core.sender)

  -- in a burst
  in-burst : (k : OnLine) → in_burst k ≡ true → ms_left s ≡ some_ms (burst_left mode k s.core.sender cs) → From k
  in-burst k b left =
      let q = next_code mode n (front s) k s.core.sender in
      let g = rw cs-length at (burst-lowers mode k s.core.sender (front s) cs b (core-in s i).sender-in
      (all-waiting s i) front-first) in
      let e = left-chars q.takes (next-takes mode n (front s) k s.core.sender) in
      rw (e, left) (g (silence_by q))

  -- in no burst, with characters waiting
  left-first : in_burst l ≡ false → eqb n 0 ≡ false
      → ms_left s ≡ some_ms (free_ms - silence + preamble_of mode + behind_ms mode (on_line 1 0 0) s.core.sender cs)
  left-first b e = rw (b, e, begun_first l b) refl

  -- one begins with its preamble
  begins-lower : in_burst l ≡ false → may_begin n silence ≡ true → From (on_line 1 0 0)
  unfolding part_ms
  begins-lower b may =
      let f = free n silence may in
      let h = (core-in s i).silence_in in
      let p = length-replicate (preamble_of mode) mark in
      let z : free_ms - silence + preamble_of mode ≡ part_left mode (on_line 1 0 0) = omega arith in
      in-burst (on_line 1 0 0) refl
      (left-first b (some-wait n silence may)
      ∙ ap (λ (k : ℕ). some_ms (k + behind_ms mode (on_line 1 0 0) s.core.sender cs)) z)

  -- none begins: the line becomes free, or none waits
  waits-lower : in_burst l ≡ false → may_begin n silence ≡ false → (deaf : Bool)
      → left_of mode l s.core.sender n (silence_after (is_silent deaf quiet) silence) cs ≡ ms_left s - 1
  unfolding silence_after
  waits-lower b may deaf =
      by-test (eqb n 0) (λ e. rw (b, e) refl)
      (λ e.
      let h = not_free n silence e may in
      let z = eqb-false n 0 e in
      let f = cs-length in
      let k = behind_ms mode (begun true l) s.core.sender cs in
      let m = some-behind mode (begun true l) s.core.sender cs (omega (arith, z)) (all-waiting s i) in
      let d =
      some-less (free_ms - (silence + 1) + preamble_of mode + k) (free_ms - silence + preamble_of mode + k)
      (omega arith) (omega arith) in
      rw (b, e, or-true deaf, lt-ltb silence free_ms h) d)

  stays-lower : in_burst l ≡ false → may_begin n silence ≡ false → From l
  stays-lower b may =
      let o = no-over mode l b in
      let e = line.not-over mode n (front s) l s.core.sender o in
      let g = line.gone-none mode l (rw (no_part mode l b) (omega arith)) in
      let r = line.stays-left mode l (may_end n) o in
      rw (e, g, r) (waits-lower b may (is_inhibited (in_burst l) s.core.inhibited))

  -- a ms of a quiet line
  pub lowers : ms_left (station_ms s quiet) ≡ ms_left s - 1
  unfolding station_ms core_from settled
  lowers =
      let may = may_begin n silence in
      by-test (in_burst l)
      (λ b.
      subst From (sym (begun-same may l (rw (b, and-false may))))
      (in-burst l b (left-burst mode l s.core.sender n silence cs b)))
      (λ b. by-test may
      (λ m. subst From (sym (ap (λ (begins : Bool). begun begins l) m ∙ begun_first l b)) (begins-lower b m))
      (λ m. subst From (sym (begun-same may l (rw m))) (stays-lower b m)))

-- ---- any number of ms

pub idle-none : (s : Station) → is_idle s ≡ true → ms_left s ≡ 0
idle-none s e = rw e refl

pub busy-some : (s : Station) → is_idle s ≡ false → 1 ≤ ms_left s
busy-some s e =
    rw e
    (some_more (ahead_ms (mode_of_station s) s.core.line s.core.silence
    + behind_ms (mode_of_station s) (begun true s.core.line) s.core.sender (waiting_of (queue_of s))))
  where
    some_more : (m : ℕ) → 1 ≤ some_ms m
    some_more m =
        either-by (λ (k : ℕ). 1 ≤ k) (eqb m 0) (λ e. omega arith)
        (λ e. let z = eqb-false m 0 e in omega (arith, z))

left_after : (k : ℕ) (s : Station) → length s.chars ≡ 256 → in_range s ≡ true
    → ms_left (station_after s (quiet_for k)) ≡ ms_left s - k
unfolding state_after
left_after zero s full i = omega arith
left_after (suc k) s full i =
    let g = lowers s full i in
    let r = left_after k (station_ms s quiet) (ms-full s quiet full) (ms-in s quiet full i (omega arith)) in
    r ∙ (omega arith)

-- after those that are left to it, and any more, a station in range is idle
pub idle-from : (n : ℕ) (s : Station) → length s.chars ≡ 256 → in_range s ≡ true → ms_left s ≤ n
    → is_idle (station_after s (quiet_for n)) ≡ true
idle-from n s full i h =
    let after = station_after s (quiet_for n) in
    let r = left_after n s full i in
    by-test (is_idle after) (λ e. e) (λ e. let b = busy-some after e in absurd (omega arith))

-- .. and after no fewer
pub idle-in : (s : Station) → length s.chars ≡ 256 → in_range s ≡ true → IdleIn s (ms_left s)
idle-in s full i = record {
  idle = idle-from (ms_left s) s full i (omega arith);
  first = λ k h.
      let after = station_after s (quiet_for k) in
      let r = left_after k s full i in
      by-test (is_idle after) (λ e. let z = idle-none after e in absurd (omega arith)) (λ e. e);
}
