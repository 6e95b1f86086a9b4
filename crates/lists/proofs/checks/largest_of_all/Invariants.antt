-- `checks::largest_of_all` meets its contract. The invariant: the largest byte passed and those left together say it
-- of all.
use mathlib.Core.Path.{◌≡◌}
use mathlib.Core.Bool.{◌&&◌}
use Prim.Native.Nat.{ℕ}
use lib.Dec.{leb}
use lib.ListN.{drop}
use Rattle.lists.specs.Lists.{all_at_most}
use Rattle.lists.proofs.checks.largest_of_all.Given as goal

abbrev pub invariant-loop-x : goal.invariant-loop-x
invariant-loop-x l = (m : ℕ) → (leb l.largest m && all_at_most m (drop l.x-index l.xs)) ≡ all_at_most m l.xs
