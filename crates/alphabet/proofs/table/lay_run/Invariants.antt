-- `table::lay_run` meets its contract. The invariant: what is left, written behind what stands there, is the whole.
use Rattle.alphabet.proofs.Storage.{Laid}
use Rattle.alphabet.proofs.table.lay_run.Given as goal

abbrev pub invariant-loop-n : goal.invariant-loop-n
invariant-loop-n l = Laid l.initial.table l.from l.to l.table l.n
