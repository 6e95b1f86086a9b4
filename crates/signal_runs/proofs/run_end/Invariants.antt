-- `run_end` meets its contract. The invariant: the elements so far have one level.
use Rattle.signal_runs.specs.code.Levels.{Run}
use Rattle.signal_runs.proofs.run_end.Given as goal

abbrev pub invariant-loop-k : goal.invariant-loop-k
invariant-loop-k l = Run l.frame l.j l.k
