use Rattle.edges_runs.proofs.Slicing.{along-turn, along-end}
use Rattle.edges_runs.proofs.with_slice.Goals as goal

pub loop-i-preserved : goal.loop-i-preserved
loop-i-preserved c =
    along-turn _ _ _ _ c.requires _ _ c.loop-i.invariant c.loop-i-test.true _ c.with_ms-along.ensures _
    c.through_run-i.ensures

pub returns-clause-value : goal.returns-clause-value
returns-clause-value c = along-end _ _ _ _ c.requires _ _ c.loop-i.invariant c.loop-i-test.false
