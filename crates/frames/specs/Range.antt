-- Document 01, question 1, as far as it asks about a frame: its numbers are within the values that document 01 gives
-- them.
use Rattle.std.specs.Prelude.{ℕ, ◌+◌, Bool, ◌&&◌, List, [], ◌∷◌, leb, ltb}
use Rattle.alphabet.specs.declared.Mode.{Mode}
use Rattle.alphabet.specs.Modes.{frame_codes}
use Rattle.frames.specs.declared.Frame.{Frame}
use Rattle.frames.specs.Samples.{Placed, samples_of}

-- The ms of the last sample.
unfoldable pub last_ms : List Placed → ℕ
last_ms [] = 0
last_ms (s ∷ []) = s.ms
last_ms (s ∷ (t ∷ ts)) = last_ms (t ∷ ts)

-- Frame places: hunting, waiting, or in a frame up to its last sample; digits below those of a code.
abbrev pub frame_in : Mode → Frame → Bool
frame_in mode f = leb f.place (last_ms (samples_of mode) + 1) && ltb f.digits (frame_codes mode)
