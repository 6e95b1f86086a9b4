-- `put_frame` meets its contract. The invariant: what is written, and the element of the next ms.
use Rattle.std.proofs.Common.{◌-◌, length}
use Rattle.signal_runs.proofs.Elements.{Framing}
use Rattle.signal_runs.proofs.put_frame.Given as goal

abbrev pub invariant-loop-i : goal.invariant-loop-i
invariant-loop-i l = Framing l.mode l.frame l.at l.sent l.i l.j

abbrev pub decreases-loop-i : goal.decreases-loop-i
decreases-loop-i l = length l.initial.sent - l.i
