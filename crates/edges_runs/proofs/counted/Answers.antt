use mathlib.Core.Path.{◌∙◌}
use Rattle.edges_runs.proofs.Sampling.{count_none, count_code}
use Rattle.edges_runs.proofs.counted.Goals as goal

pub returns-then-p : goal.returns-then-p
returns-then-p c v g =
    c.joined.ensures
    ∙ count_code _ _ _ _ _ _ c.args.p.code _ v c.requires.count_of.inside c.requires.le_place g _
    c.latest.ensures.value c.if-p.true

pub returns-else-p : goal.returns-else-p
returns-else-p c v g =
    count_none c.args.e c.args.p.place v _ c.args.p.code c.args.r c.requires.count_of.report c.if-p.false
