-- Tables as lists, and tests over all places of a table.
use Rattle.std.specs.Prelude.{Bool, true, ◌&&◌, List, [], ◌∷◌, ℕ, zero, suc}

-- f at i, i + 1, .., n values
unfoldable pub tabulate : {A : Type 0} → (ℕ → A) → ℕ → ℕ → List A
tabulate f zero i = []
tabulate f (suc n) i = f i ∷ tabulate f n (suc i)

-- the test passes at i, i + 1, .., n places
unfoldable pub passes : (ℕ → Bool) → ℕ → ℕ → Bool
passes f zero i = true
passes f (suc n) i = f i && passes f n (suc i)
