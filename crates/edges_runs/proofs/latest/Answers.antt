use mathlib.Core.Path.{◌∙◌}
use Rattle.edges_runs.proofs.Going.{latest-empty, latest-fell, latest-began, latest-went}
use Rattle.edges_runs.proofs.latest.Goals as goal

pub returns-then-len-eq0-clause-value : goal.returns-then-len-eq0-clause-value
returns-then-len-eq0-clause-value c w' g = latest-empty _ _ _ _ _ _ c.if-len-eq0.true g

pub returns-then-after-lt2-clause-value : goal.returns-then-after-lt2-clause-value
returns-then-after-lt2-clause-value c w' g =
    c.none.ensures ∙ latest-fell _ _ _ _ _ _ c.if-len-eq0.false c.if-after-lt2.true g

pub returns-then-n-len-clause-value : goal.returns-then-n-len-clause-value
returns-then-n-len-clause-value c w' g =
    c.with_slice.ensures.value
    ∙ latest-began _ _ _ _ _ _ c.if-len-eq0.false c.if-after-lt2.false _ c.ms_at-n.ensures c.if-n-len.true _
    c.none-then-n-len.ensures g

pub returns-clause-value : goal.returns-clause-value
returns-clause-value c w' g =
    c.with_slice-2.ensures.value
    ∙ latest-went _ _ _ _ _ _ c.if-len-eq0.false c.if-after-lt2.false _ c.ms_at-n.ensures c.if-n-len.false _
    c.ms_at.ensures g
