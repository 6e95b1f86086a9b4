-- The report of a run: what is heard before a burst, and what is heard after it.
use mathlib.Core.Path.{◌≡◌, ◌∙◌, refl, sym, ap}
use mathlib.Core.Bool.{true, false}
use mathlib.Core.List.{List}
use Prim.Native.Nat.{ℕ, ◌+◌, ◌-◌, ◌≤◌}
use native.Mathlib.Omega.{arith}
use lib.Dec.{eqb}
use lib.ListN.{length, take, drop, length-take, length-drop, drop_of_length-le}
use lib.Seq.{take_all}
use borrow.Author.Tests.{eqb-true}
use Rattle.lists.specs.Lists.{all_at_most}
use Rattle.lists.proofs.Lists.{either-by}
use Rattle.alphabet.specs.declared.Mode.{Mode}
use Rattle.alphabet.specs.Modes.{highest_level}
use Rattle.frames.specs.declared.Frame.{Frame}
use Rattle.frames.specs.Frames.{hunting}
use Rattle.frames.specs.code.Bounds.{FrameOf}
use Rattle.edges.specs.declared.Edges.{Edges}
use Rattle.edges.specs.declared.Report.{Report}
use Rattle.edges.specs.Edges.{no_edges, is_measured}
use Rattle.edges.specs.code.Measuring.{report_over}
use Rattle.edges.specs.code.Bounds.{ReportOf, EdgesOf}
use Rattle.edges.proofs.Range.{more_of, waiting_few}
use Rattle.edges.proofs.Bound.{Fine, fine_of}
use Rattle.edges_runs.proofs.Bound.{report-most, report-fine}
use Rattle.burst.specs.Line.{in_burst}
use Rattle.half_duplex.specs.declared.Core.{Core}
use Rattle.half_duplex.specs.Core.{mode_in}
use Rattle.station.specs.declared.Measured.{Measured}
use Rattle.station.specs.Measured.{station_of, report_after}
use Rattle.station.specs.Range.{in_range}
use Rattle.preview.specs.code.Count.{ms_left}
use Rattle.drift.specs.code.Moments.{burst_at, deaf_ms, frame_behind, edges_behind, heard_in}
use Rattle.drift.proofs.Behind.{frame-some, edges_some, frame-in, edges-in}
use Rattle.drift.proofs.Deaf.{report-deaf, deaf-idle}
use Rattle.drift.proofs.Bursts.{burst-goes, report-burst}
use Rattle.drift.proofs.Waits.{waits}

module _ (y : Measured) (r : Report) (heard : List ℕ) where
  abbrev c : Core
  c = y.core

  abbrev mode : Mode
  mode = mode_in c

  abbrev f : Frame
  f = c.reader.frame

  abbrev w : Edges
  w = y.edges

  -- with a burst at some ms
  abbrev pub Told : ℕ → Type 0
  Told to =
      report_after y r heard
      ≡ report_over mode hunting no_edges (heard_in mode f w r heard c.inhibited to)
      (drop (to + deaf_ms c y.chars) heard)

  module _ (full : length y.chars ≡ 256) (i : in_range (station_of y) ≡ true)
      (levels : all_at_most (highest_level mode) heard ≡ true) (few : Fine w.seen) (fine : Fine r)
      (is : is_measured mode ≡ true) where
    -- one is on the line
    goes : in_burst c.line ≡ true → Told 0
    unfolding report_over
    goes b =
        let s = station_of y in
        let deaf = c.inhibited in
        let left : ms_left s + 300 ≡ deaf_ms c y.chars = rw b refl in
        let from : 0 + deaf_ms c y.chars ≡ ms_left s + 300 = omega arith in
        let none : 0 - deaf ≡ 0 = omega arith in
        report-burst y r heard full i (burst-goes s b) (rw b refl) is fine.none
        ∙ sym (λ j.
        report_over mode hunting no_edges
        (report_over mode (frame_behind deaf f) (edges_behind deaf w) r (take (none j) (drop deaf heard)))
        (drop (from j) heard))

    -- none is to come
    listens : in_burst c.line ≡ false → eqb c.waiting 0 ≡ true → Told (length heard)
    unfolding report_over
    listens b e =
        let deaf = c.inhibited in
        let none = drop_of_length-le heard {i = length heard + deaf_ms c y.chars} (omega arith) in
        let l = length-drop deaf heard in
        let all = take_all (length heard - deaf) (drop deaf heard) (omega arith) in
        report-deaf deaf y r heard (deaf-idle deaf (station_of y) b (eqb-true c.waiting 0 e) refl) is fine.none
        ∙ sym (λ j.
        report_over mode hunting no_edges (report_over mode (frame_behind deaf f) (edges_behind deaf w) r (all j))
        (none j))

    pub whole : Told (burst_at c heard)
    unfolding burst_at
    whole =
        either-by Told (in_burst c.line) (λ b. goes b)
        (λ b. either-by Told (eqb c.waiting 0) (λ e. listens b e)
        (λ e.
        waits c.waiting c.mode c.line c.sender y.chars b e full is c.silence c.inhibited
        c.reader w r heard i levels few fine))

  -- no ms is left behind
  pub none-behind : (to : ℕ) → length heard ≤ to + deaf_ms c y.chars → Told to
      → report_after y r heard ≡ heard_in mode f w r heard c.inhibited to
  unfolding report_over
  none-behind to h t =
      let none = drop_of_length-le heard {i = to + deaf_ms c y.chars} (omega arith) in
      t ∙ ap (report_over mode hunting no_edges (heard_in mode f w r heard c.inhibited to)) none

  -- some are
  pub some-behind : (to from : ℕ) → from ≡ to + deaf_ms c y.chars → (q : Report)
      → q ≡ heard_in mode f w r heard c.inhibited to → Told to
      → heard_in mode f w q heard from (length heard) ≡ report_after y r heard
  some-behind to from e q before t =
      let h = frame-some from f (omega arith) in
      let n = edges_some from w (omega arith) in
      let l = length-drop from heard in
      let all = take_all (length heard - from) (drop from heard) (omega arith) in
      (λ j. report_over mode (h j) (n j) (before j) (all j))
      ∙ ap (λ (k : ℕ). report_over mode hunting no_edges (heard_in mode f w r heard c.inhibited to) (drop k heard)) e
      ∙ sym t

-- a report stays in range
pub heard-kept : (mode : Mode) (f : Frame) (w : Edges) (r : Report) (heard : List ℕ) (from to : ℕ)
    → FrameOf mode f → EdgesOf mode f w → ReportOf 65_536 r → length heard ≤ 4_096
    → ReportOf 70_000 (heard_in mode f w r heard from to)
heard-kept mode f w r heard from to i j k l =
    let g = frame_behind from f in
    let v = edges_behind from w in
    let part = take (to - from) (drop from heard) in
    let few = waiting_few mode g v (frame-in mode from f i) (edges-in mode from f w j) in
    let n = few.few in
    let m = k.few in
    let a = length-take (to - from) (drop from heard) in
    let b = length-drop from heard in
    let most = report-most mode g v r part in
    more_of (omega arith) (report-fine mode g v r part (fine_of few) (fine_of k))
