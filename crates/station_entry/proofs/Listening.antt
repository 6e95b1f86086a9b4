-- A station that only listens: what question 1 asks of its frame and its edges, and the report after its run.
use mathlib.Core.Path.{◌≡◌, ◌∙◌, sym}
use mathlib.Core.Bool.{true}
use mathlib.Core.List.{List}
use Prim.Native.Nat.{ℕ}
use Rattle.lists.proofs.Lists.{by-test, and_right}
use Rattle.frames.specs.Range.{frame_in}
use Rattle.frames.proofs.Range.{frame_is}
use Rattle.edges.specs.declared.Report.{Report}
use Rattle.edges.specs.Edges.{no_edge, is_measured}
use Rattle.edges.specs.Range.{edges_in}
use Rattle.edges.specs.code.Measuring.{report_over}
use Rattle.edges_runs.proofs.Reading as reading
use Rattle.half_duplex.specs.Core.{mode_in}
use Rattle.station.specs.declared.Measured.{Measured}
use Rattle.station.specs.Measured.{station_of, report_after}
use Rattle.station.specs.Range.{in_range, measured_in}
use Rattle.station.specs.Listening.{Listens}
use Rattle.station.proofs.Edged.{measured-in, frame-of}
use Rattle.drift.proofs.Hearing.{hears-all, unmeasured-report}

module _ (x : Measured) (i : measured_in x ≡ true) where
  pub frame-asked : frame_in (mode_in x.core) x.core.reader.frame ≡ true
  frame-asked = frame_is _ _ (frame-of x (measured-in x i).0)

  pub edges-asked : edges_in (mode_in x.core) x.core.reader.frame x.edges ≡ true
  unfolding measured_in
  edges-asked = and_right (in_range (station_of x)) _ i

-- it is the one over its frames, in every mode
pub hears-over : (x : Measured) (r : Report) (heard : List ℕ) → Listens (station_of x) → (r.edges ≡ 0 → r ≡ no_edge)
    → report_after x r heard ≡ report_over (mode_in x.core) x.core.reader.frame x.edges r heard
hears-over x r heard l n =
    by-test (is_measured (mode_in x.core)) (hears-all x r heard l)
    (λ m. unmeasured-report x r heard m n ∙ sym (reading.unmeasured-report _ m _ _ r heard n))
