-- A station in no burst in which characters wait: ms that are inhibited, ms that are heard, and a burst once the line
-- is free.
use mathlib.Core.Path.{◌≡◌, ◌∙◌, refl, sym, ap, subst}
use mathlib.Core.Bool.{true, false, and-false}
use mathlib.Core.List.{List, [], ◌∷◌}
use Prim.Native.Nat.{ℕ, zero, suc, ◌+◌, ◌-◌}
use native.Mathlib.Omega.{arith}
use lib.Dec.{eqb, leb, ltb}
use lib.ListN.{length, take, drop, drop_of_length-le}
use borrow.Author.Tests.{eqb-false, leb-true, lt-ltb}
use Rattle.lists.specs.Lists.{all_at_most}
use Rattle.lists.specs.Steps.{state_after, outputs}
use Rattle.lists.proofs.Lists.{either-by, both, at-most-head, at-most-tail}
use Rattle.alphabet.specs.declared.Mode.{Mode}
use Rattle.alphabet.specs.Modes.{mode_of, highest_level}
use Rattle.baudot.specs.declared.Sender.{Sender}
use Rattle.frames.specs.Frames.{hunting}
use Rattle.edges.specs.declared.Edges.{Edges}
use Rattle.edges.specs.declared.Report.{Report}
use Rattle.edges.specs.Edges.{no_edges, joined, is_measured, edges_ms, counted_ms}
use Rattle.edges.specs.code.Measuring.{report_over}
use Rattle.edges.proofs.Range.{none_of}
use Rattle.edges.proofs.Bound.{Fine, fine-joined, ms-fine}
use Rattle.reader.specs.declared.Reader.{Reader}
use Rattle.reader.specs.Reader.{hear, inhibited}
use Rattle.burst.specs.declared.OnLine.{OnLine}
use Rattle.burst.specs.Rules.{free_ms, after_ms, may_begin, is_silent}
use Rattle.burst.specs.Line.{in_burst}
use Rattle.half_duplex.specs.Core.{core, silence_after, reader_ms}
use Rattle.queue.specs.Queue.{queue, waiting_of}
use Rattle.station.specs.declared.Measured.{Measured}
use Rattle.station.specs.Station.{station, station_ms}
use Rattle.station.specs.Measured.{measured, station_of, measured_ms, report_after}
use Rattle.station.specs.Range.{in_range}
use Rattle.station.proofs.Range.{core-in, ms-in}
use Rattle.preview.specs.code.Count.{busy_ms, ms_left}
use Rattle.drift.specs.code.Moments.{free_at, frame_behind, edges_behind, heard_in}
use Rattle.drift.proofs.Behind.{frame-hunts, edges_none}
use Rattle.drift.proofs.Hearing.{hear-frame, counted-free, waiting-free}
use Rattle.drift.proofs.Still.{inhibited-still, ms-still}
use Rattle.drift.proofs.Deaf.{none-counted, none-waiting}
use Rattle.drift.proofs.Bursts.{burst-begins, report-burst}

none_left : (k d : ℕ) → take {A = ℕ} k (drop d []) ≡ []
none_left zero d = refl
none_left (suc k) zero = refl
none_left (suc k) (suc d) = refl

module _ (n m : ℕ) (line : OnLine) (sender : Sender) (chars : List ℕ) where
  abbrev mode : Mode
  mode = mode_of m

  abbrev at : ℕ → ℕ → Reader → Edges → Measured
  at silence deaf q w = measured (station (core n silence deaf line sender q m) chars) w

  -- the inhibited ms from the first of the burst on
  abbrev after : ℕ
  after = busy_ms mode line sender free_ms (waiting_of (queue n chars)) + after_ms

  -- the report, with a burst at some ms
  abbrev pub Told : ℕ → ℕ → Reader → Edges → Report → List ℕ → ℕ → Type 0
  Told silence deaf q w r heard to =
      report_after (at silence deaf q w) r heard
      ≡ report_over mode hunting no_edges (heard_in mode q.frame w r heard deaf to) (drop (to + after) heard)

  -- no ms
  no-ms : (silence deaf : ℕ) (q : Reader) (w : Edges) (r : Report) → Told silence deaf q w r [] 0
  unfolding state_after outputs report_over
  no-ms silence deaf q w r =
      let before = none_left (0 - deaf) deaf in
      let behind = drop_of_length-le {A = ℕ} [] {i = 0 + after} (omega arith) in
      sym (λ j.
      report_over mode hunting no_edges
      (report_over mode (frame_behind deaf q.frame) (edges_behind deaf w) r (before j)) (behind j))

  module _ (b : in_burst line ≡ false) (some : eqb n 0 ≡ false) (full : length chars ≡ 256)
      (is : is_measured mode ≡ true) where
    not_yet : (silence : ℕ) → leb free_ms silence ≡ false → may_begin n silence ≡ false
    unfolding may_begin
    not_yet silence e = rw (e, and-false) refl

    may-begin : (silence : ℕ) → leb free_ms silence ≡ true → may_begin n silence ≡ true
    unfolding may_begin
    may-begin silence e = let z = eqb-false n 0 some in both (lt-ltb 0 n (omega (arith, z))) e

    -- ---- the burst begins

    begins : (silence deaf : ℕ) (q : Reader) (w : Edges) (r : Report) (heard : List ℕ)
        → in_range (station_of (at silence deaf q w)) ≡ true → Fine r → leb free_ms silence ≡ true
        → Told silence deaf q w r heard 0
    unfolding report_over
    begins silence deaf q w r heard i f e =
        let y = at silence deaf q w in
        let s = station_of y in
        let low = (core-in s i).silence_in in
        let high = leb-true free_ms silence e in
        let free : silence ≡ free_ms = omega arith in
        let left : ms_left s ≡ busy_ms mode line sender free_ms (waiting_of (queue n chars)) =
        rw (b, some, free) refl in
        let from : 0 + after ≡ ms_left s + 300 = omega arith in
        let none : 0 - deaf ≡ 0 = omega arith in
        report-burst y r heard full i (burst-begins s b (may-begin silence e)) (rw (b, some) refl) is f.none
        ∙ sym (λ j.
        report_over mode hunting no_edges
        (report_over mode (frame_behind deaf q.frame) (edges_behind deaf w) r (take (none j) (drop deaf heard)))
        (drop (from j) heard))

    -- ---- one ms before it

    module _ (silence : ℕ) (busy : leb free_ms silence ≡ false) (q : Reader) (w : Edges) (r : Report)
        (x : ℕ) (xs : List ℕ) (to : ℕ) where
      -- inhibited
      module _ (deaf : ℕ) where
        abbrev y : Measured
        y = at silence (suc deaf) q w

        abbrev some-deaf : ltb 0 (suc deaf) ≡ true
        some-deaf = lt-ltb 0 (suc deaf) (omega arith)

        abbrev one_less : suc deaf - 1 ≡ deaf
        one_less = omega arith

        deaf-next : station_ms (station_of y) x ≡ station_of (at (silence_after true silence) deaf (inhibited q)
            no_edges)
        deaf-next =
            ms-still (station_of y) b (not_yet silence busy) x
            ∙ (λ j.
            station
            (core n (silence_after (is_silent (some-deaf j) x) silence) (one_less j) line sender
            (reader_ms mode (some-deaf j) q x) m) chars)

        deaf-turn : Fine r → Told (silence_after true silence) deaf (inhibited q) no_edges r xs to
            → Told silence (suc deaf) q w r (x ∷ xs) (suc to)
        unfolding state_after outputs measured_ms inhibited
        deaf-turn f rest =
            let d = inhibited-still (station_of y) b (not_yet silence busy) ∙ some-deaf in
            let e = deaf-next in
            let v = none-waiting y d x in
            let k = none-counted y d x r f.none in
            let fr = frame-hunts deaf in
            let ed = edges_none deaf in
            let size : to - deaf ≡ suc to - suc deaf = omega arith in
            let from : suc (to + after) ≡ suc to + after = omega arith in
            (λ j. report_after (measured (e j) (v j)) (k j) xs) ∙ rest
            ∙ (λ j.
            report_over mode hunting no_edges
            (report_over mode (fr j) (ed j) r (take (size j) (drop deaf xs)))
            (drop (from j) (x ∷ xs)))

      -- heard
      abbrev z : Measured
      z = at silence 0 q w

      heard-next : station_ms (station_of z) x
          ≡ station_of (at (silence_after (is_silent false x) silence) 0 (hear mode q x).reader w)
      heard-next = ms-still (station_of z) b (not_yet silence busy) x

      heard-turn :
          Told (silence_after (is_silent false x) silence) 0 (hear mode q x).reader (edges_ms mode q.frame w x)
          (joined r (counted_ms mode q.frame w x)) xs to
          → Told silence 0 q w r (x ∷ xs) (suc to)
      unfolding state_after outputs measured_ms report_over
      heard-turn rest =
          let d = inhibited-still (station_of z) b (not_yet silence busy) in
          let e = heard-next in
          let v = waiting-free z x d in
          let k = counted-free z x d in
          let fr = hear-frame mode is q x in
          let less : to - 0 ≡ to = omega arith in
          let size : suc to ≡ suc to - 0 = omega arith in
          let from : suc (to + after) ≡ suc to + after = omega arith in
          (λ j. report_after (measured (e j) (v j)) (joined r (k j)) xs) ∙ rest
          ∙ (λ j.
          report_over mode hunting no_edges
          (report_over mode (fr j) (edges_ms mode q.frame w x) (joined r (counted_ms mode q.frame w x))
          (take (less j) xs))
          (drop (to + after) xs))
          ∙ (λ j.
          report_over mode hunting no_edges (report_over mode q.frame w r (take (size j) (x ∷ xs)))
          (drop (from j) (x ∷ xs)))

    -- ---- all ms

    pub waits : (silence deaf : ℕ) (q : Reader) (w : Edges) (r : Report) (heard : List ℕ)
        → in_range (station_of (at silence deaf q w)) ≡ true → all_at_most (highest_level mode) heard ≡ true
        → Fine w.seen → Fine r → Told silence deaf q w r heard (free_at silence deaf heard)
    unfolding free_at
    waits silence deaf q w r [] i l g f = no-ms silence deaf q w r
    waits silence zero q w r (x ∷ xs) i l g f =
        either-by (Told silence 0 q w r (x ∷ xs)) (leb free_ms silence)
        (λ e. begins silence 0 q w r (x ∷ xs) i f e)
        (λ e.
        let k = ms-fine mode q.frame w x g in
        let s' = silence_after (is_silent false x) silence in
        let next = ap in_range (sym (heard-next silence e q w r x xs 0))
        ∙ ms-in (station_of (at silence 0 q w)) x full i (at-most-head (highest_level mode) x xs l) in
        heard-turn silence e q w r x xs (free_at s' 0 xs)
        (waits s' 0 (hear mode q x).reader (edges_ms mode q.frame w x)
        (joined r (counted_ms mode q.frame w x)) xs next (at-most-tail (highest_level mode) x xs l) k.1
        (fine-joined f k.0)))
    waits silence (suc deaf) q w r (x ∷ xs) i l g f =
        either-by (Told silence (suc deaf) q w r (x ∷ xs)) (leb free_ms silence)
        (λ e. begins silence (suc deaf) q w r (x ∷ xs) i f e)
        (λ e.
        let s = station_of (at silence (suc deaf) q w) in
        let next = ap in_range (sym (deaf-next silence e q w r x xs 0 deaf))
        ∙ ms-in s x full i (at-most-head (highest_level mode) x xs l) in
        let rest = waits (silence_after true silence) deaf (inhibited q) no_edges r xs next
        (at-most-tail (highest_level mode) x xs l) (none_of 0) f in
        let some-deaf = lt-ltb 0 (suc deaf) (omega arith) in
        let one_less : suc deaf - 1 ≡ deaf = omega arith in
        subst (λ (k : ℕ). Told silence (suc deaf) q w r (x ∷ xs) (suc k))
        (sym (λ j. free_at (silence_after (is_silent (some-deaf j) x) silence) (one_less j) xs))
        (deaf-turn silence e q w r x xs (free_at (silence_after true silence) deaf xs) deaf f rest))
