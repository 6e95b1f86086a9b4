-- The timetable over and over, and as printed.
use Rattle.std.specs.Prelude.{ℕ, ◌%◌, List, [], ◌∷◌, ◌++◌, replicate}
use Rattle.lists.specs.Tables.{tabulate}
use Rattle.calling.specs.Timetable.{Part, period, value_at}

-- The first n ms of the timetable, over and over.
abbrev pub periods : ℕ → List ℕ
periods n = tabulate (λ k. value_at (k % period)) n 0

-- The printed values, each for its ms.
unfoldable pub spread : List Part → List ℕ
spread [] = []
spread (p ∷ ps) = replicate p.ms p.value ++ spread ps
