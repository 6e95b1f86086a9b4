-- `through` meets its contract. The invariant: what holds up to the place.
use Rattle.lists.specs.code.Places.{Through}
use Rattle.lists.proofs.places.through.Given as goal

abbrev pub invariant-loop-i : goal.invariant-loop-i
invariant-loop-i l = Through l.xs l.from l.end l.x l.i
