-- The invariant: a reader is reached, and nothing was found on the way.
use Prim.Native.Nat.{◌-◌}
use lib.ListN.{length}
use Rattle.frames_runs.specs.code.Walking.{frame_of}
use Rattle.edges_runs.specs.code.Counting.{Reached}
use Rattle.edges_runs.proofs.next_end.Given as goal

abbrev pub invariant-loop-at : goal.invariant-loop-at
invariant-loop-at l = Reached l.mode l.heard (frame_of l.initial.at) l.initial.at.to (frame_of l.at) l.at.to

abbrev pub decreases-loop-at : goal.decreases-loop-at
decreases-loop-at l = length l.heard - l.at.to
