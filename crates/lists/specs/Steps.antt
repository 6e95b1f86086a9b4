-- A machine that takes one input at a time, a ms or a call: its state after a list of them, and what each of them
-- gives.
use Rattle.std.specs.Prelude.{List, [], ◌∷◌, ◌++◌}

unfoldable pub state_after : {S : Type 0} {I : Type 0} → (S → I → S) → S → List I → S
state_after step s [] = s
state_after step s (x ∷ xs) = state_after step (step s x) xs

unfoldable pub outputs : {S : Type 0} {I : Type 0} {O : Type 0} → (S → I → S) → (S → I → O) → S → List I → List O
outputs step out s [] = []
outputs step out s (x ∷ xs) = out s x ∷ outputs step out (step s x) xs

-- Each gives a list; all of these, end to end.
unfoldable pub joined : {S : Type 0} {I : Type 0} {O : Type 0} → (S → I → S) → (S → I → List O) → S → List I → List O
joined step out s [] = []
joined step out s (x ∷ xs) = out s x ++ joined step out (step s x) xs
