-- `table::lay_run` meets its contract, number by number.
use native.Mathlib.Omega.{arith}
use Rattle.alphabet.proofs.Storage.{stored-entry, laid-turn, laid_end}
use Rattle.alphabet.proofs.table.lay_run.Goals as goal

pub loop-n-preserved : goal.loop-n-preserved
loop-n-preserved c =
    let served = c.requires.by_index c.loop-n.n c.loop-n.invariant.least c.loop-n-test.true in
    laid-turn _ _ _ _ _ _ c.loop-n.invariant c.loop-n-test.true
    (stored-entry _ c.requires.stored_value _ _ (omega arith) (omega arith))

pub returns : goal.returns
returns c = laid_end _ _ _ _ _ c.loop-n.invariant c.loop-n-test.false
