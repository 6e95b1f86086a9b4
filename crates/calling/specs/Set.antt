-- Document 01, "The calling set (5.1)": one ms of a calling set, and any number of them.
use Rattle.std.specs.Prelude.{ℕ, Bool, cond, ◌&&◌, List, eqb, leb, ltb}
use Rattle.lists.specs.Steps.{state_after, outputs}
use Rattle.calling.specs.declared.Calling.{Calling}
use Rattle.calling.specs.Timetable.{nothing, period, value_at, place_after}
use Rattle.calling.specs.Tones.{none, length_of, longest, last_tone}
use Rattle.calling.specs.Counting.{counted}

-- A calling set's state (there: the chooser's): what was heard last and for how many ms in a row, the place in the
-- timetable, and the choice, which reads 0 until one is made.
abbrev pub calling : ℕ → ℕ → ℕ → ℕ → Calling
calling tone ms place choice = record { ms = ms; place = place; tone = tone; choice = choice }

-- 400 ms of none in a row after a tone make the next ms the timetable's first.
abbrev pub pause : ℕ
pause = 400

-- A fresh set starts as after the pause.
unfoldable pub fresh : Calling
fresh = calling none pause 0 0

-- Question 12, state in range: the choice and the tone are 0 to 11, the ms in a row 1 to 1,700 (the longest that a tone
-- must last), the place one of the timetable's.
unfoldable pub in_range : Calling → Bool
in_range s =
    leb s.choice last_tone && leb s.tone last_tone && leb 1 s.ms && leb s.ms longest && ltb s.place period

-- No tone was heard for so long that the timetable runs.
abbrev pub pause_over : ℕ → ℕ → Bool
pause_over tone ms = eqb tone none && leb pause ms

-- In the ms of a tone and after it nothing is sent; a ms of none after the pause is one of the timetable's.
abbrev pub sends : Calling → ℕ → Bool
sends s heard = eqb heard none && pause_over s.tone s.ms

-- The ms in a row that a rule asks for: the pause, or a tone's length.
abbrev pub enough : ℕ → ℕ
enough heard = cond (eqb heard none) pause (length_of heard)

abbrev pub ms_after : Calling → ℕ → ℕ
ms_after s heard = counted s.tone s.ms heard (enough heard)

-- A tone that lasts its length in a row is the choice.
abbrev pub reached : ℕ → ℕ → ℕ → ℕ
reached tone ms length = cond (ltb ms length) 0 tone

abbrev pub chosen : ℕ → ℕ → ℕ
chosen heard ms = cond (eqb heard none) 0 (reached heard ms (length_of heard))

-- One ms, by what is heard in it: what is sent, and the state after it. The choice is for good, and nothing is sent any
-- more.
unfoldable pub sent_ms : Calling → ℕ → ℕ
sent_ms s heard = cond (eqb s.choice 0 && sends s heard) (value_at s.place) nothing

unfoldable pub calling_ms : Calling → ℕ → Calling
calling_ms s heard =
    cond (eqb s.choice 0)
    (calling heard (ms_after s heard) (cond (sends s heard) (place_after s.place) 0) (chosen heard (ms_after s heard)))
    s

-- The ms of a list, one after the other: the state after them, and one sent ms for each.
abbrev pub after : Calling → List ℕ → Calling
after s heard = state_after calling_ms s heard

abbrev pub sent_of : Calling → List ℕ → List ℕ
sent_of s heard = outputs calling_ms sent_ms s heard
