-- The largest of the first so many numbers of two lists.
use Rattle.std.specs.Prelude.{ℕ, ◌≡◌, ◌&&◌, List, leb, take}
use Rattle.lists.specs.Lists.{all_at_most}

abbrev pub LargestOfFronts : ℕ → List ℕ → List ℕ → ℕ → Type 0
LargestOfFronts n xs ys largest = (m : ℕ) → leb largest m ≡ (all_at_most m (take n xs) && all_at_most m (take n ys))
