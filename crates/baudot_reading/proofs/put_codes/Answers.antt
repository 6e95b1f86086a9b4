use native.Mathlib.Omega.{arith}
use Rattle.lists.proofs.Lists.{at-most-at}
use Rattle.baudot_reading.proofs.ReadingRule.{reading-turn, reading-room, reading-end, slice-end}
use Rattle.baudot_reading.proofs.put_codes.Goals as goal

pub put_code-taken-requires-clause-code_bound : goal.put_code-taken-requires-clause-code_bound
put_code-taken-requires-clause-code_bound c =
    let k = at-most-at 31 c.args.codes.now c.requires.codes_value c.loop-code.code-index c.loop-code-test.true in
    omega (arith, k)

pub put_code-taken-requires-clause-code_in_bounds : goal.put_code-taken-requires-clause-code_in_bounds
put_code-taken-requires-clause-code_in_bounds c =
    reading-room _ _ _ _ _ _ c.loop-code.invariant c.loop-code-test.true c.requires.codes_in_bounds

pub loop-code-preserved : goal.loop-code-preserved
loop-code-preserved c =
    reading-turn _ _ _ _ _ _ c.loop-code.invariant _ _ c.loop-code-test.true c.put_code-taken.ensures.value
    c.put_code-taken.ensures.text_after

pub returns-clause-value : goal.returns-clause-value
returns-clause-value c = reading-end _ _ _ _ _ _ c.loop-code.invariant c.loop-code-test.false

pub returns-clause-text_after : goal.returns-clause-text_after
returns-clause-text_after c = slice-end _ _ _ _ _ _ c.loop-code.invariant c.loop-code-test.false
