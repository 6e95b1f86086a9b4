-- `codes` meets its contract.
use Prim.Native.Nat.{◌-◌}
use lib.ListN.{length}
use Rattle.queue.specs.Queue.{moved_by}
use Rattle.burst_runs.proofs.Coding.{Coded}
use Rattle.burst_runs.proofs.codes.Given as goal

abbrev pub invariant-loop-table : goal.invariant-loop-table
invariant-loop-table l = Coded l.heard (moved_by l.from l.chars) l.initial.sent l.c l.i l.sent l.taken l.sender l.line
    l.at

abbrev pub decreases-loop-table : goal.decreases-loop-table
decreases-loop-table l = length l.heard - l.at
