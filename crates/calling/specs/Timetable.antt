-- Document 01, "The calling set (5.1)": what is sent while nothing is heard.
use Rattle.std.specs.Prelude.{ℕ, ◌+◌, ◌-◌, cond, List, [], ◌∷◌, ltb}

-- Sent values: 0 nothing, 1 CI, 2 XCI.
abbrev pub nothing : ℕ
nothing = 0

abbrev pub CI : ℕ
CI = 1

abbrev pub XCI : ℕ
XCI = 2

-- A value that is sent, and for how many ms.
pub record Part : Type 0 where
  pub value : ℕ
  pub ms : ℕ

abbrev pub part : ℕ → ℕ → Part
part value ms = record { value = value; ms = ms }

-- The timetable, as printed.
unfoldable pub timetable : List Part
timetable =
    part nothing 1_000 ∷
    part CI 400 ∷
    part nothing 2_000 ∷
    part CI 400 ∷
    part nothing 2_000 ∷
    part CI 400 ∷
    part nothing 2_000 ∷
    part XCI 3_000 ∷
    []

unfoldable pub total : List Part → ℕ
total [] = 0
total (p ∷ ps) = p.ms + total ps

-- The period: all its ms.
unfoldable pub period : ℕ
period = total timetable

-- The value at a place, a ms counted from 0; nothing behind the last.
unfoldable pub value_in : List Part → ℕ → ℕ
value_in [] place = nothing
value_in (p ∷ ps) place =
    let later = value_in ps (place - p.ms) in
    cond (ltb place p.ms) p.value later

-- What the timetable sends at a place.
abbrev pub value_at : ℕ → ℕ
value_at place = value_in timetable place

-- Over and over: the first place follows the last.
unfoldable pub place_after : ℕ → ℕ
place_after place = cond (ltb (place + 1) period) (place + 1) 0
