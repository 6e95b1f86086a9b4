-- The invariant: the ms up to the place end in nothing.
use Prim.Native.Nat.{◌-◌}
use lib.ListN.{length}
use Rattle.frames_runs.specs.code.Passing.{FramePasses}
use Rattle.frames_runs.specs.code.Walking.{frame_of}
use Rattle.reader_runs.proofs.skip_frame.Given as goal

abbrev pub invariant-loop-w : goal.invariant-loop-w
invariant-loop-w l = FramePasses l.mode l.heard l.r.frame l.i (frame_of l.w) l.w.to

abbrev pub decreases-loop-w : goal.decreases-loop-w
decreases-loop-w l = length l.heard - l.w.to
