-- `edges_after` meets its contract.
-- ---- the moments of the walk
-- ---- the needs
use mathlib.Core.Path.{◌≡◌, ◌∙◌, sym, ap, subst}
use Prim.Native.Nat.{ℕ, ◌≤◌}
use Rattle.alphabet.specs.Modes.{element_of}
use Rattle.edges.proofs.Range.{element-few, element-some, is-unmeasured, is-measured}
use Rattle.edges_runs.specs.code.Latest.{Goes}
use Rattle.half_duplex.specs.Core.{mode_in}
use Rattle.station.specs.Station.{station}
use Rattle.station.specs.Measured.{measured, measured_after}
use Rattle.station.proofs.Edged.{measured-in}
use Rattle.station_entry.proofs.Waiting.{goes_to, none-outside, none-wait}
use Rattle.station_entry.proofs.edges_after.Goals as goal

pub returns-then-to-lt2 : goal.returns-then-to-lt2
returns-then-to-lt2 c =
    λ chars i l e.
    let x = measured (station c.args.c chars) c.args.w in
    c.none.ensures ∙ none-outside x _ (measured-in x i).1 l c.args.after e c.if-to-lt2.true

pub returns-then-e-eq0 : goal.returns-then-e-eq0
returns-then-e-eq0 c =
    let element-is : c.element-e.result ≡ element_of (mode_in c.args.c) = c.element-e.ensures
    ∙ ap element_of c.of.ensures in
    λ chars i l e.
    let m = is-unmeasured (mode_in c.args.c) (sym element-is ∙ c.if-e-eq0.true) in
    c.none-then-e-eq0.ensures ∙ none-wait (measured (station c.args.c chars) c.args.w) _ (measured-in _ i).1 l m

pub latest-requires : goal.latest-requires
latest-requires c =
    let element-is : c.element-e.result ≡ element_of (mode_in c.args.c) = c.element-e.ensures
    ∙ ap element_of c.of.ensures in
    let mode = mode_in c.args.c in
    let e = element-is in
    let m = is-measured mode (λ z. c.if-e-eq0.false (e ∙ z)) in
    record {
      le_e = subst (λ (n : ℕ). 1 ≤ n) (sym e) (element-some mode m);
      e_bound = subst (λ (n : ℕ). n ≤ 22) (sym e) (element-few mode);
      report_of = c.requires.report_of;
      heard_len_bound = c.requires.heard_len_bound;
    }

pub returns : goal.returns
returns c =
    let element-is : c.element-e.result ≡ element_of (mode_in c.args.c) = c.element-e.ensures
    ∙ ap element_of c.of.ensures in
    λ chars i l a.
    let x = measured (station c.args.c chars) c.args.w in
    let heard = c.args.heard.now in
    let e = element-is in
    let m = is-measured (mode_in c.args.c) (λ z. c.if-e-eq0.false (e ∙ z)) in
    let w = (measured_after x heard).edges in
    let g = goes_to x heard (measured-in x i).1 l m c.args.after a in
    let from = c.args.c.reader.frame.place in
    let to = c.args.after.reader.frame.place in
    c.latest.ensures.value w (subst (λ (n : ℕ). Goes n from c.args.w heard to w) (sym e) g)
