use Rattle.lists.proofs.Steps.{left-turn, left-state, left-slice}
use Rattle.calling.proofs.Calling.run_all.Goals as goal

pub loop-i-preserved : goal.loop-i-preserved
loop-i-preserved c =
    left-turn _ _ _ _ _ _ _ _ c.loop-i.invariant 0 c.loop-i-test.true _ _ c.step.ensures.state c.step.ensures.sent

pub returns : goal.returns
returns c =
    let l = c.loop-i.invariant in
    let h = c.loop-i-test.false in
    record { state = left-state _ _ _ _ _ _ _ _ l h; sent = left-slice _ _ _ _ _ _ _ _ l h }
