-- The invariant: what is left gives what the whole slice gives.
use Prim.Native.Nat.{◌-◌}
use lib.ListN.{length}
use Rattle.edges_runs.proofs.Slicing.{Along}
use Rattle.edges_runs.proofs.with_slice.Given as goal

abbrev pub invariant-loop-i : goal.invariant-loop-i
invariant-loop-i l = Along l.e l.m l.initial.along l.heard l.along l.i

abbrev pub decreases-loop-i : goal.decreases-loop-i
decreases-loop-i l = length l.heard - l.i
