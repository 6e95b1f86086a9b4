-- The invariant: no key counts up to the place.
use Prim.Native.Nat.{◌-◌}
use lib.ListN.{length}
use Rattle.keys.specs.Keys.{keys_at}
use Rattle.keys_runs.proofs.Keying.{Counted}
use Rattle.keys_runs.proofs.pass_count.Given as goal

abbrev pub invariant-loop-to : goal.invariant-loop-to
invariant-loop-to l = Counted l.heard (keys_at l.initial.key l.initial.ms 0) l.initial.to l.key l.ms l.to

abbrev pub decreases-loop-to : goal.decreases-loop-to
decreases-loop-to l = length l.heard - l.to
