-- Tests over the elements of a list; how long a call may be; a result that is written into a slice.
use Rattle.std.specs.Prelude.{Bool, true, ◌&&◌, List, [], ◌∷◌, ◌++◌, ℕ, leb, length, drop}

-- every number is at most m
unfoldable pub all_at_most : ℕ → List ℕ → Bool
all_at_most m [] = true
all_at_most m (x ∷ xs) = leb x m && all_at_most m xs

-- every number is at least m
unfoldable pub all_at_least : ℕ → List ℕ → Bool
all_at_least m [] = true
all_at_least m (x ∷ xs) = leb m x && all_at_least m xs

-- Question 5: at most so many ms in one call.
abbrev pub most_ms : ℕ
most_ms = 4_096

-- a slice with a result written from its front
abbrev pub written : List ℕ → List ℕ → List ℕ
written result slice = result ++ drop (length result) slice
