use native.Mathlib.Omega.{arith}
use Rattle.std.specs.Slice.Iter.{chunks_rest}
use Rattle.baudot.proofs.CountingRule.{shifts-most}
use Rattle.baudot_reading.proofs.ReadingRule.{block-turn, block-most}
use Rattle.baudot_reading.proofs.count_shifts.Goals as goal

pub overflow_add-n : goal.overflow_add-n
overflow_add-n c =
    let m = block-most _ _ _ _ _ _ c.in-Some.ensures.steps.1.0 c.count_block.ensures c.loop-block.invariant.1.1 in
    omega (arith, m, c.well_formed)

pub loop-block-preserved : goal.loop-block-preserved
loop-block-preserved c =
    let s = c.in-Some.ensures.steps in
    let i = c.loop-block.invariant.1 in
    let t = block-turn _ _ _ _ _ _ s.1.0 c.count_block.ensures i.1 in
    rw s.0 (c.loop-block.invariant.0, (i.0, t))

pub returns : goal.returns
returns c =
    let m = shifts-most (chunks_rest c.loop-block.block-iterator) in
    omega (arith, m, c.in-None.ensures.steps.1.0, c.loop-block.invariant.1.1)
