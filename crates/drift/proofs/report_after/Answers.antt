-- `report_after` meets its contract.
use mathlib.Core.Path.{◌≡◌, ◌∙◌, sym, ap, subst}
use mathlib.Core.Bool.{true}
use mathlib.Core.List.{List}
use Prim.Native.Nat.{ℕ, ◌+◌, ◌≤◌, ◌<◌}
use native.Mathlib.Omega.{arith}
use lib.ListN.{length}
use Rattle.alphabet.specs.declared.Mode.{Mode}
use Rattle.alphabet.specs.Modes.{element_of}
use Rattle.frames.specs.code.Bounds.{FrameOf}
use Rattle.edges.specs.Edges.{is_measured}
use Rattle.edges.specs.code.Bounds.{ReportOf, EdgesOf}
use Rattle.edges.proofs.Range.{more_of, is-unmeasured, is-measured}
use Rattle.edges.proofs.Bound.{fine_of}
use Rattle.half_duplex.specs.Core.{mode_in}
use Rattle.station.specs.declared.Measured.{Measured}
use Rattle.station.specs.Station.{station}
use Rattle.station.specs.Measured.{measured, station_of}
use Rattle.station.specs.Range.{in_range}
use Rattle.station.proofs.Range.{core-in}
use Rattle.station.proofs.Edged.{Edged, measured-in, frame-of}
use Rattle.station.proofs.Reports.{waiting-fine}
use Rattle.drift.specs.code.Moments.{burst_at, deaf_ms, heard_in}
use Rattle.drift.proofs.Hearing.{unmeasured-report}
use Rattle.drift.proofs.Freeing.{burst-within}
use Rattle.drift.proofs.Least.{burst-least}
use Rattle.drift.proofs.Whole.{Told, whole, none-behind, some-behind, heard-kept}
use borrow.Author.Rules.{rules}
use Rattle.drift.proofs.report_after.Goals as goal

pub returns-then-element-eq0 : goal.returns-then-element-eq0
returns-then-element-eq0 c =
    let e = sym (ap element_of c.of-mode.ensures) ∙ sym c.element.ensures ∙ c.if-element-eq0.true in
    sym (unmeasured-report _ _ _ (is-unmeasured (mode_in c.args.c) e) c.requires.report_of.none)

pub heard_in-before-requires : goal.heard_in-before-requires
heard_in-before-requires c =
    let y : Measured = measured (station c.args.c c.args.chars.now) c.args.w in
    let ranged : (in_range (station_of y) ≡ true) × Edged y = measured-in y c.requires.w_value in
    let frame-in : FrameOf c.of-mode.result y.core.reader.frame =
    subst (λ (m : Mode). FrameOf m y.core.reader.frame) (sym c.of-mode.ensures) (frame-of y ranged.0) in
    let edges-in : EdgesOf c.of-mode.result y.core.reader.frame y.edges =
    subst (λ (m : Mode). EdgesOf m y.core.reader.frame y.edges) (sym c.of-mode.ensures) ranged.1 in
    let heard : List ℕ = c.args.heard.now in
    let within : c.burst_at-to.result ≤ length heard = subst (λ (n : ℕ). n ≤ length heard) (sym c.burst_at-to.ensures)
    (burst-within y.core heard) in
    record {
      frame_of = frame-in;
      edges_of = edges-in;
      report_of = more_of (omega arith) c.requires.report_of;
      heard_len_bound = c.requires.heard_len_bound;
      to_in_bounds = within;
    }

pub overflow_add-to : goal.overflow_add-to
overflow_add-to c =
    let y : Measured = measured (station c.args.c c.args.chars.now) c.args.w in
    let ranged : (in_range (station_of y) ≡ true) × Edged y = measured-in y c.requires.w_value in
    let heard : List ℕ = c.args.heard.now in
    let within : c.burst_at-to.result ≤ length heard = subst (λ (n : ℕ). n ≤ length heard) (sym c.burst_at-to.ensures)
    (burst-within y.core heard) in
    let w = within in
    let n = (core-in (station_of y) ranged.0).waiting-in in
    omega arith

pub returns-then-len-to : goal.returns-then-len-to
returns-then-len-to c =
    let y : Measured = measured (station c.args.c c.args.chars.now) c.args.w in
    let heard : List ℕ = c.args.heard.now in
    let ranged : (in_range (station_of y) ≡ true) × Edged y = measured-in y c.requires.w_value in
    let is : is_measured (mode_in y.core) ≡ true = is-measured (mode_in y.core)
    (λ z. c.if-element-eq0.false (c.element.ensures ∙ ap element_of c.of-mode.ensures ∙ z)) in
    let told : Told y c.args.r heard (burst_at y.core heard) =
    whole y c.args.r heard c.requires.chars_len ranged.0 c.requires.heard_value
    (fine_of (waiting-fine y c.requires.w_value)) (fine_of c.requires.report_of) is in
    let before_is : c.heard_in-before.result ≡ heard_in (mode_in y.core) y.core.reader.frame y.edges c.args.r heard
    y.core.inhibited (burst_at y.core heard) = c.heard_in-before.ensures
    ∙ (λ j. heard_in (c.of-mode.ensures j) y.core.reader.frame y.edges c.args.r heard y.core.inhibited
    (c.burst_at-to.ensures j)) in
    let n = burst-least (station_of y) c.requires.chars_len ranged.0 is in
    let t = c.if-len-to.true in
    let all : length heard ≤ burst_at y.core heard + deaf_ms y.core y.chars = omega arith in
    before_is ∙ sym (none-behind y c.args.r heard (burst_at y.core heard) all told)

pub burst_ms-requires : goal.burst_ms-requires
burst_ms-requires c =
    let y : Measured = measured (station c.args.c c.args.chars.now) c.args.w in
    let ranged : (in_range (station_of y) ≡ true) × Edged y = measured-in y c.requires.w_value in
    record { chars_value = ranged.0; chars_len = c.requires.chars_len }

pub overflow_add-from : goal.overflow_add-from
overflow_add-from c =
    let heard : List ℕ = c.args.heard.now in
    let y : Measured = measured (station c.args.c c.args.chars.now) c.args.w in
    let within : c.burst_at-to.result ≤ length heard = subst (λ (n : ℕ). n ≤ length heard) (sym c.burst_at-to.ensures)
    (burst-within y.core heard) in
    let few : c.burst_at-to.result + c.burst_ms.result < 4_096 + 4_294_967_296 = let w = within in
    let f : c.burst_ms.result < 4_294_967_296 = search rules in omega arith in
    let f = few in omega arith

pub overflow_add-from-2 : goal.overflow_add-from-2
overflow_add-from-2 c =
    let heard : List ℕ = c.args.heard.now in
    let y : Measured = measured (station c.args.c c.args.chars.now) c.args.w in
    let within : c.burst_at-to.result ≤ length heard = subst (λ (n : ℕ). n ≤ length heard) (sym c.burst_at-to.ensures)
    (burst-within y.core heard) in
    let few : c.burst_at-to.result + c.burst_ms.result < 4_096 + 4_294_967_296 = let w = within in
    let f : c.burst_ms.result < 4_294_967_296 = search rules in omega arith in
    let f = few in omega arith

pub heard_in-requires : goal.heard_in-requires
heard_in-requires c =
    let y : Measured = measured (station c.args.c c.args.chars.now) c.args.w in
    let heard : List ℕ = c.args.heard.now in
    let ranged : (in_range (station_of y) ≡ true) × Edged y = measured-in y c.requires.w_value in
    let frame-in : FrameOf c.of-mode.result y.core.reader.frame =
    subst (λ (m : Mode). FrameOf m y.core.reader.frame) (sym c.of-mode.ensures) (frame-of y ranged.0) in
    let edges-in : EdgesOf c.of-mode.result y.core.reader.frame y.edges =
    subst (λ (m : Mode). EdgesOf m y.core.reader.frame y.edges) (sym c.of-mode.ensures) ranged.1 in
    let at = c.burst_at-to.result in
    let deaf = y.core.inhibited in
    let kept = heard-kept _ _ _ _ heard deaf at frame-in edges-in c.requires.report_of c.requires.heard_len_bound in
    record {
      frame_of = frame-in;
      edges_of = edges-in;
      report_of =
          subst (ReportOf 70_000) (sym c.heard_in-before.ensures) kept;
      heard_len_bound = c.requires.heard_len_bound;
      to_in_bounds = omega arith;
    }

pub returns : goal.returns
returns c =
    let y : Measured = measured (station c.args.c c.args.chars.now) c.args.w in
    let heard : List ℕ = c.args.heard.now in
    let ranged : (in_range (station_of y) ≡ true) × Edged y = measured-in y c.requires.w_value in
    let is : is_measured (mode_in y.core) ≡ true = is-measured (mode_in y.core)
    (λ z. c.if-element-eq0.false (c.element.ensures ∙ ap element_of c.of-mode.ensures ∙ z)) in
    let told : Told y c.args.r heard (burst_at y.core heard) =
    whole y c.args.r heard c.requires.chars_len ranged.0 c.requires.heard_value
    (fine_of (waiting-fine y c.requires.w_value)) (fine_of c.requires.report_of) is in
    let before_is : c.heard_in-before.result ≡ heard_in (mode_in y.core) y.core.reader.frame y.edges c.args.r heard
    y.core.inhibited (burst_at y.core heard) = c.heard_in-before.ensures
    ∙ (λ j. heard_in (c.of-mode.ensures j) y.core.reader.frame y.edges c.args.r heard y.core.inhibited
    (c.burst_at-to.ensures j)) in
    let from = c.burst_at-to.result + c.burst_ms.result + 300 in
    let e : from ≡ burst_at y.core heard + deaf_ms y.core y.chars = omega arith in
    c.heard_in.ensures
    ∙ (λ j.
    heard_in (c.of-mode.ensures j) y.core.reader.frame y.edges c.heard_in-before.result heard from
    (length heard))
    ∙ some-behind y c.args.r heard _ from e c.heard_in-before.result before_is told
