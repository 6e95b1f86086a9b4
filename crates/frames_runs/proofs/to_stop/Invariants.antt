-- The invariant: up to the next sample, nothing was found.
use Prim.Native.Nat.{◌-◌}
use lib.ListN.{length}
use Rattle.frames_runs.specs.code.Walking.{frame_of}
use Rattle.frames_runs.proofs.Framing.{Ahead}
use Rattle.frames_runs.proofs.to_stop.Given as goal

abbrev pub invariant-loop-at : goal.invariant-loop-at
invariant-loop-at l = Ahead l.mode l.heard (frame_of l.fn.w) l.fn.w.to l.j l.s l.at l.d

abbrev pub decreases-loop-at : goal.decreases-loop-at
decreases-loop-at l = length l.heard - l.at
