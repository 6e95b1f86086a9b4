-- `back` meets its contract. The invariant: what holds from the place on.
use Prim.Native.Nat.{◌≤◌}
use Rattle.lists.specs.code.Places.{Through}
use Rattle.lists.proofs.places.back.Given as goal

abbrev pub invariant-loop-k : goal.invariant-loop-k
invariant-loop-k l = (l.from ≤ l.k) × Through l.xs l.k l.end l.x l.end
