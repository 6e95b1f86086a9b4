use Rattle.keys_runs.proofs.Keying.{needs-none, turn-row, turn-40}
use Rattle.keys_runs.proofs.pass_count.Goals as goal

pub invariant_of-result : goal.invariant_of-result
invariant_of-result c =
    let p = turn-40 _ c.args.levels.ranged _ _ _ _ _ _ c.loop-to.invariant c.loop-to-test.true c.up_to-last.ensures _
    c.ms_after-n.ensures c.if-n-eq-KEY_MS.true in
    record { ranged = p.ranged }

pub returns-then-n-eq-KEY_MS : goal.returns-then-n-eq-KEY_MS
returns-then-n-eq-KEY_MS c =
    needs-none _ c.args.k _ _ c.if-k-ne0.false
    (turn-40 _ c.args.levels.ranged _ _ _ _ _ _ c.loop-to.invariant c.loop-to-test.true c.up_to-last.ensures _
    c.ms_after-n.ensures c.if-n-eq-KEY_MS.true)

pub loop-to-preserved : goal.loop-to-preserved
loop-to-preserved c =
    turn-row _ c.args.levels.ranged _ _ _ _ _ _ c.loop-to.invariant c.loop-to-test.true c.up_to-last.ensures _
    c.ms_after-n.ensures c.if-n-eq-KEY_MS.false
