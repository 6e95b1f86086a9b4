-- The invariant: the reader and the report are those of the ms so far.
use Prim.Native.Nat.{◌+◌, ◌-◌}
use lib.ListN.{length}
use Rattle.edges_runs.proofs.Measuring.{At}
use Rattle.edges_runs.proofs.measure.Given as goal

abbrev pub invariant-loop-p : goal.invariant-loop-p
invariant-loop-p l = At l.fn.mode l.fn.f l.fn.w l.initial.report l.heard l.walk.place l.walk.digits l.walk.to l.report

abbrev pub decreases-loop-p : goal.decreases-loop-p
decreases-loop-p l = length l.heard + 1 - l.walk.to
