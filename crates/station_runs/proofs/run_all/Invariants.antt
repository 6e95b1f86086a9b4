-- `run_all` meets its contract. The invariant: what is left, and the slices as written so far.
use Prim.Native.Nat.{◌-◌}
use lib.ListN.{length}
use Rattle.station_runs.proofs.Fold.{Left, rest}
use Rattle.station_runs.proofs.run_all.Given as goal

abbrev pub invariant-loop-i : goal.invariant-loop-i
invariant-loop-i l = Left l.heard l.chars l.initial.sent l.initial.words l.c (rest l.c l.chars l.core) l.sent l.words
    l.core l.i l.n

abbrev pub decreases-loop-i : goal.decreases-loop-i
decreases-loop-i l = length l.heard - l.i
