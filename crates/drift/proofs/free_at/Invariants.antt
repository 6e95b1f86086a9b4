-- `free_at` meets its contract. The invariant: it is found from the place on.
use mathlib.Core.Path.{◌≡◌}
use Rattle.drift.specs.code.Moments.{free_at}
use Rattle.drift.proofs.Freeing.{from}
use Rattle.drift.proofs.free_at.Given as goal

abbrev pub invariant-loop-i : goal.invariant-loop-i
invariant-loop-i l = from l.s l.deaf l.heard l.i ≡ free_at l.silence l.deaf l.heard
