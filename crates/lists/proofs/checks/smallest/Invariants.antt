-- `checks::smallest` meets its contract. The invariant: the smallest byte passed and those left together say it of all.
use mathlib.Core.Path.{◌≡◌}
use mathlib.Core.Bool.{◌&&◌}
use Prim.Native.Nat.{ℕ, ◌≤◌}
use lib.Dec.{leb}
use lib.ListN.{drop}
use Rattle.lists.specs.Lists.{all_at_least}
use Rattle.lists.proofs.checks.smallest.Given as goal

abbrev pub invariant-loop-x : goal.invariant-loop-x
invariant-loop-x l =
    (m : ℕ) → m ≤ 255 → (leb m l.smallest && all_at_least m (drop l.x-index l.xs)) ≡ all_at_least m l.xs
