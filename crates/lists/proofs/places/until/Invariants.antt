-- `until` meets its contract. The invariant: what holds up to the place.
use Rattle.lists.specs.code.Places.{Until}
use Rattle.lists.proofs.places.until.Given as goal

abbrev pub invariant-loop-i : goal.invariant-loop-i
invariant-loop-i l = Until l.xs l.from l.end l.x l.i
