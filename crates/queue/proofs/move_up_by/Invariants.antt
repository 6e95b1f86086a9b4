-- `move_up_by` meets its contract. The invariants: those before a place have moved up.
use mathlib.Core.Path.{◌≡◌}
use Prim.Native.Nat.{◌+◌, ◌-◌, ◌≤◌}
use Rattle.queue.proofs.Moves.{Slid, Filling}
use Rattle.queue.proofs.move_up_by.Given as goal

abbrev pub invariant-loop-from : goal.invariant-loop-from
invariant-loop-from l = Slid l.n l.initial.chars l.chars l.to × ((l.from ≡ l.to + l.n) × ((l.to ≤ l.last) × (1 ≤ l.n)))

abbrev pub decreases-loop-from : goal.decreases-loop-from
decreases-loop-from l = l.last - l.from

abbrev pub invariant-loop-to : goal.invariant-loop-to
invariant-loop-to l = Filling l.n l.last l.c l.initial.chars l.initial.to l.chars l.to

abbrev pub decreases-loop-to : goal.decreases-loop-to
decreases-loop-to l = l.last - l.to
