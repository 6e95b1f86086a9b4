-- Inhibited ms: what is heard in them does not matter, they count nothing, and they leave no frame.
use mathlib.Core.Path.{◌≡◌, ◌∙◌, refl, ap}
use mathlib.Core.Bool.{true, false}
use mathlib.Core.List.{List, [], ◌∷◌}
use Prim.Native.Nat.{ℕ, zero, suc}
use native.Mathlib.Omega.{arith}
use lib.ListN.{drop}
use borrow.Author.Tests.{lt-ltb}
use Rattle.lists.specs.Steps.{state_after, outputs}
use Rattle.signal.specs.Signal.{quiet}
use Rattle.frames.specs.Frames.{hunting}
use Rattle.edges.specs.declared.Report.{Report}
use Rattle.edges.specs.Edges.{no_edge, no_edges, joined, is_measured}
use Rattle.edges.specs.code.Measuring.{report_over}
use Rattle.edges.proofs.Joining.{joined-none}
use Rattle.burst.specs.Rules.{may_begin}
use Rattle.burst.specs.Line.{in_burst}
use Rattle.half_duplex.specs.Core.{mode_in, inhibited_in, core_from}
use Rattle.station.specs.declared.Station.{Station}
use Rattle.station.specs.declared.Measured.{Measured}
use Rattle.station.specs.Station.{front, station_ms}
use Rattle.station.specs.Measured.{measured, station_of, waiting_ms, counted_in, measured_ms, report_after}
use Rattle.station.specs.Listening.{Listens}
use Rattle.station.proofs.Edged.{frame-after}
use Rattle.drift.specs.code.Moments.{frame_behind, edges_behind}
use Rattle.drift.proofs.Behind.{frame-hunts, edges_none}
use Rattle.drift.proofs.Hearing.{hears-all}
use Rattle.drift.proofs.Still.{none-begins, inhibited-still, ms-still}

-- ---- one inhibited ms

module _ (s : Station) (deaf : inhibited_in s.core (front s) ≡ true) where
  same_ms : (x : ℕ) → station_ms s x ≡ station_ms s quiet
  unfolding station_ms core_from
  same_ms x = rw deaf refl

  hunts : (x : ℕ) → (station_ms s x).core.reader.frame ≡ hunting
  hunts x = frame-after s x ∙ rw deaf refl

module _ (y : Measured) (deaf : inhibited_in y.core (front (station_of y)) ≡ true) (x : ℕ) where
  pub none-counted : (r : Report) → (r.edges ≡ 0 → r ≡ no_edge) → joined r (counted_in y x) ≡ r
  unfolding counted_in
  none-counted r n = rw deaf (joined-none r n)

  pub none-waiting : waiting_ms y x ≡ no_edges
  unfolding waiting_ms
  none-waiting = rw deaf refl

-- ---- many of them

-- The next n ms are inhibited, and from there on the station only listens.
unfoldable pub Deaf : ℕ → Station → Type 0
Deaf zero s = Listens s
Deaf (suc n) s = (inhibited_in s.core (front s) ≡ true) × Deaf n (station_ms s quiet)

pub report-deaf : (n : ℕ) (y : Measured) (r : Report) (heard : List ℕ) → Deaf n (station_of y)
    → is_measured (mode_in y.core) ≡ true → (r.edges ≡ 0 → r ≡ no_edge)
    → report_after y r heard
    ≡ report_over (mode_in y.core) (frame_behind n y.core.reader.frame) (edges_behind n y.edges) r (drop n heard)
unfolding Deaf state_after outputs report_over measured_ms station_ms core_from
report-deaf zero y r heard d m k = hears-all y r heard d m
report-deaf (suc n) y r [] d m k = refl
report-deaf (suc n) y r (x ∷ xs) d m k =
    let s = station_of y in
    let e = same_ms s d.0 x in
    let v = none-waiting y d.0 x in
    let q = none-counted y d.0 x r k in
    let f = ap (frame_behind n) (hunts s d.0 quiet) ∙ frame-hunts n in
    let w = edges_none n in
    (λ j. report_after (measured (e j) (v j)) (q j) xs)
    ∙ report-deaf n (measured (station_ms s quiet) no_edges) r xs d.1 m k
    ∙ (λ j. report_over (mode_in y.core) (f j) (w j) r (drop n xs))

-- in no burst and with none waiting, as many as are to come
pub deaf-idle : (n : ℕ) (s : Station) → in_burst s.core.line ≡ false → s.core.waiting ≡ 0
    → s.core.inhibited ≡ n → Deaf n s
unfolding Deaf
deaf-idle zero s b z e = record { no-burst = b; none-waiting = z; none_to_come = e }
deaf-idle (suc n) s b z e =
    let may = ap (λ (k : ℕ). may_begin k s.core.silence) z ∙ none-begins s.core.silence in
    let t = ms-still s b may quiet in
    let i = ap (λ (k : Station). k.core.inhibited) t in (
      inhibited-still s b may ∙ lt-ltb 0 s.core.inhibited (omega arith),
      deaf-idle n (station_ms s quiet) (ap (λ (k : Station). in_burst k.core.line) t ∙ b)
          (ap (λ (k : Station). k.core.waiting) t ∙ z) (omega arith),
    )
