-- `count` meets its contract: one law for each answer.
use mathlib.Core.Path.{◌≡◌, ◌∙◌, sym, subst}
use mathlib.Core.Bool.{true, false≢true}
use Prim.Native.Nat.{◌<◌}
use native.Mathlib.Omega.{arith}
use Rattle.edges.specs.declared.Report.{Report}
use Rattle.edges.proofs.Range.{report-in}
use Rattle.lists.proofs.Lists.{and_left}
use Rattle.station.proofs.Answers.{run-1-report}
use Rattle.station_entry.proofs.Answers.{plain_in, plain-accepts, counts-none, counts_some, counts-long, full}
use Rattle.station_entry.proofs.count.Goals as goal

pub returns-then-not-report_in_range-clause-err : goal.returns-then-not-report_in_range-clause-err
returns-then-not-report_in_range-clause-err c =
    let e = sym c.report_in_range.ensures ∙ c.if-not-report_in_range.true in
    counts-none _ _ _ _ _ 1 (λ z. omega arith) (run-1-report _ _ _ _ _ e) _

pub returns-then-heard-gt-MOST_MS-clause-ok : goal.returns-then-heard-gt-MOST_MS-clause-ok
returns-then-heard-gt-MOST_MS-clause-ok c =
    let ranged = sym c.report_in_range.ensures ∙ c.if-not-report_in_range.false in
    counts-long _ _ _ _ _ ranged c.if-heard-gt-MOST_MS.true _

pub report_after-report-requires : goal.report_after-report-requires
report_after-report-requires c =
    let ranged = sym c.report_in_range.ensures ∙ c.if-not-report_in_range.false in
    record { report_of = report-in _ ranged; heard_len_bound = c.if-heard-gt-MOST_MS.false }

pub returns-then-report-le-MOST-clause-ok : goal.returns-then-report-le-MOST-clause-ok
returns-then-report-le-MOST-clause-ok c =
    let ranged = sym c.report_in_range.ensures ∙ c.if-not-report_in_range.false in
    counts_some _ _ _ _ _ ranged _
    (λ z. (c.report_after-report.ensures (plain_in _ _ _ _ z), c.if-report-le-MOST.true))

pub returns-else-accepts-clause-ok : goal.returns-else-accepts-clause-ok
returns-else-accepts-clause-ok c =
    let ranged = sym c.report_in_range.ensures ∙ c.if-not-report_in_range.false in
    counts_some _ _ _ _ _ ranged _
    (λ z. absurd (false≢true (sym c.if-accepts.false ∙ c.accepts.ensures ∙ plain-accepts _ _ _ _ z)))

pub returns-then-accepts-clause-err : goal.returns-then-accepts-clause-err
returns-then-accepts-clause-err c =
    let ranged = sym c.report_in_range.ensures ∙ c.if-not-report_in_range.false in
    let y = sym c.accepts.ensures ∙ c.if-accepts.true in
    let more = subst (λ (r : Report). 65_536 < r.edges) (c.report_after-report.ensures (and_left _ _ y))
    c.if-report-le-MOST.false in
    counts-none _ _ _ _ _ 18 (λ z. omega arith) (full _ _ _ _ _ ranged c.if-heard-gt-MOST_MS.false y more) _
