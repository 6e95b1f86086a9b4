-- A machine whose numbers end in something or in nothing, and those that it may pass over.
use Rattle.std.specs.Prelude.{ℕ, ◌≤◌, ◌≡◌, Bool, cond, List, [], ◌∷◌, length, drop}
use Rattle.lists.specs.Steps.{state_after, outputs}

-- What is something, in order.
unfoldable pub kept : {O : Type 0} → (O → Bool) → List O → List O
kept some [] = []
kept some (o ∷ os) = let rest = kept some os in cond (some o) (o ∷ rest) rest

-- From the place i to another, the state s is then t: what is left ends in what it would have ended in.
pub record Passes {S : Type 0} {O : Type 0} (step : S → ℕ → S) (out : S → ℕ → O) (some : O → Bool) (In : S → Type 0)
    (xs : List ℕ) (s : S) (i : ℕ) (t : S) (to : ℕ) : Type 0 where
  pub low : i ≤ to
  pub high : to ≤ length xs
  pub ranged : In t
  pub after : state_after step t (drop to xs) ≡ state_after step s (drop i xs)
  pub rest : kept some (outputs step out t (drop to xs)) ≡ kept some (outputs step out s (drop i xs))
