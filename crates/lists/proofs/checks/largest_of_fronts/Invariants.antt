-- `checks::largest_of_fronts` meets its contract. The invariant: what holds of those passed.
use Prim.Native.Nat.{◌≤◌}
use Rattle.lists.specs.code.Checks.{LargestOfFronts}
use Rattle.lists.proofs.checks.largest_of_fronts.Given as goal

abbrev pub invariant-loop-i : goal.invariant-loop-i
invariant-loop-i l = (l.i ≤ 16) × LargestOfFronts l.i l.xs l.ys l.largest
