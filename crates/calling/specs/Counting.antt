-- Counting ms in a row: which tone was heard last, and for how many ms. It knows nothing of the timetable or of the
-- choice.
use Rattle.std.specs.Prelude.{ℕ, ◌+◌, cond, eqb, ltb}

-- The ms in a row with this one, where `tone` was heard for `ms` before it: another tone, or none, ends the count, and
-- its own starts at 1. No rule asks for more than `most`, so the count stays there.
unfoldable pub counted : ℕ → ℕ → ℕ → ℕ → ℕ
counted tone ms heard most = cond (eqb heard tone) (cond (ltb ms most) (ms + 1) ms) 1
