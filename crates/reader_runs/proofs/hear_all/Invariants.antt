-- `hear_all` meets its contract. The invariant: what is left, and the slice as written so far.
-- ---- the moments of the walk
-- ---- what each moment needs
use Prim.Native.Nat.{◌+◌, ◌-◌}
use lib.ListN.{length}
use Rattle.reader_runs.proofs.Fold.{Left}
use Rattle.reader_runs.proofs.hear_all.Given as goal

abbrev pub invariant-loop-levels : goal.invariant-loop-levels
invariant-loop-levels l = Left l.mode l.heard l.initial.words l.initial.reader l.initial.i l.initial.n l.words l.reader
    l.i l.n

abbrev pub decreases-loop-levels : goal.decreases-loop-levels
decreases-loop-levels l = length l.heard + 1 - l.i
