-- The pause after a tone, by what is heard.
use Rattle.std.specs.Prelude.{ℕ, ◌+◌, Bool, true, cond, ◌&&◌, List, [], ◌∷◌, eqb, ltb}
use Rattle.calling.specs.Tones.{none}
use Rattle.calling.specs.Set.{pause}

-- The ms of none in a row after a ms of h, where n have passed before it.
abbrev pub none_after : ℕ → ℕ → ℕ
none_after n h = cond (eqb h none) (n + 1) 0

-- Before each ms of hs fewer than 400 ms of none in a row have passed; n have passed before the first.
unfoldable pub waits : ℕ → List ℕ → Bool
waits n [] = true
waits n (h ∷ hs) = ltb n pause && waits (none_after n h) hs
