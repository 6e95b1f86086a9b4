use mathlib.Core.Path.{◌∙◌, sym, subst}
use Prim.Native.Nat.{ℕ}
use Rattle.edges.proofs.Range.{is-measured, is-unmeasured}
use Rattle.edges_runs.proofs.Reading.{unmeasured-report}
use Rattle.edges_runs.proofs.Measuring.{At, at-start, end-counts, end-few, end-code, behind-end, at-last}
use Rattle.edges_runs.proofs.measure.Goals as goal

pub returns-then-e-eq0 : goal.returns-then-e-eq0
returns-then-e-eq0 c =
    let none = is-unmeasured c.args.mode (sym c.element-e.ensures ∙ c.if-e-eq0.true) in
    sym (unmeasured-report c.args.mode none c.args.f c.args.w c.args.r c.args.heard.now c.requires.report_of.none)

pub loop-p-init : goal.loop-p-init
loop-p-init c =
    subst (λ (d : ℕ). At c.args.mode c.args.f c.args.w c.args.r c.args.heard.now c.args.f.place d 0 c.args.r)
    (sym c.clean_digits.ensures)
    (at-start _ _ _ _ _ (record {
      measured = is-measured c.args.mode (λ z. c.if-e-eq0.false (c.element-e.ensures ∙ z));
      frame = c.requires.frame_of;
      edges = c.requires.edges_of;
      report = c.requires.report_of;
      short = c.requires.heard_len_bound;
    }))

pub counted-report-requires : goal.counted-report-requires
counted-report-requires c =
    record {
      count_of = end-counts _ _ _ _ _ _ _ c.loop-p.invariant _ c.in-Some.ensures _ c.element-e.ensures;
      place_bound = end-few _ _ _ _ _ _ _ c.loop-p.invariant _ c.in-Some.ensures;
      le_place = end-code _ _ _ _ _ _ _ c.loop-p.invariant _ c.in-Some.ensures;
    }

pub loop-p-preserved : goal.loop-p-preserved
loop-p-preserved c =
    behind-end _ _ _ _ _ _ _ c.loop-p.invariant _ c.in-Some.ensures _ c.element-e.ensures _ c.counted-report.ensures

pub returns : goal.returns
returns c = at-last _ _ _ _ _ _ _ c.loop-p.invariant c.in_default.ensures
