-- Document 01, "Line signal": reading Baudot and EDT, one ms at a time, with the samples as parameter.
use Rattle.std.specs.Prelude.{ℕ, ◌+◌, ◌-◌, ◌/◌, cond, List, eqb}
use Rattle.frames.specs.declared.Cause.{Cause}
use Rattle.frames.specs.declared.Cause.TheVariants.{Quiet, StopNotMark, OddParity}
use Rattle.frames.specs.declared.Frame.{Frame}
use Rattle.frames.specs.declared.Found.{Found}
use Rattle.frames.specs.declared.Found.TheVariants.{Nothing, Fault, Code}
use Rattle.frames.specs.declared.FrameRead.{FrameRead}
use Rattle.lists.specs.Steps.{state_after, outputs}
use Rattle.signal.specs.Signal.{quiet, mark, space, parity_of}
use Rattle.frames.specs.Samples.{Sample, None, Start, Digit, Parity, Stop, Last, Placed, sample_at}

-- A reader of frames is hunting (place 0), waiting after a fault (place 1), or in a frame with the digits so far: place
-- m + 1 if ms m of it is to come.
abbrev pub in_frame : ℕ → ℕ → Frame
in_frame m digits = record { place = m + 1; digits = digits }

abbrev pub hunting : Frame
hunting = record { place = 0; digits = 0 }

abbrev pub waiting : Frame
waiting = record { place = 1; digits = 0 }

-- What a ms ends in.
abbrev pub gives : Frame → Found → FrameRead
gives f o = record { frame = f; found = o }

-- The frame goes on with the next ms.
abbrev pub goes_on : ℕ → ℕ → FrameRead
goes_on m digits = gives (in_frame (m + 1) digits) Nothing

-- One fault, with its cause and the ms of the frame (document 02, #103), and from the next ms on the reader waits.
abbrev pub faulty : Cause → ℕ → FrameRead
faulty cause m = gives waiting (Fault cause m)

-- Quiet at a sample is a fault, whatever else the sample is for.
abbrev pub unless_quiet : ℕ → ℕ → FrameRead → FrameRead
unless_quiet m heard r = cond (eqb heard quiet) (faulty Quiet m) r

-- A digit comes in at the top, and those before it move down: the first of them ends lowest.
abbrev pub with_digit : ℕ → ℕ → ℕ → ℕ
with_digit top digits heard = digits / 2 + cond (eqb heard mark) top 0

-- Even parity: the parity bit, 1 as mark, is the parity of the digits.
abbrev pub parity_heard : ℕ → ℕ
parity_heard heard = cond (eqb heard mark) 1 0

-- What a sample at ms m does. A start that is not space ends the frame without a word; quiet at a later sample, odd
-- parity, or a stop that is not mark gives a fault; after the last good sample the reader hunts again.
unfoldable pub sampled : Sample → ℕ → ℕ → ℕ → FrameRead
sampled None m digits heard = goes_on m digits
sampled Start m digits heard = cond (eqb heard space) (goes_on m digits) (gives hunting Nothing)
sampled (Digit top) m digits heard = unless_quiet m heard (goes_on m (with_digit top digits heard))
sampled Parity m digits heard =
    unless_quiet m heard (cond (eqb (parity_of digits) (parity_heard heard)) (goes_on m digits) (faulty OddParity m))
sampled Stop m digits heard = unless_quiet m heard (cond (eqb heard mark) (goes_on m digits) (faulty StopNotMark m))
sampled Last m digits heard =
    unless_quiet m heard (cond (eqb heard mark) (gives hunting (Code (record { 0 = digits }))) (faulty StopNotMark m))

-- One ms. Hunting, a space ms is ms 0 of a frame. Waiting, a ms that is not space ends the wait, and the ms after it is
-- hunted in.
unfoldable pub frame_step : List Placed → Frame → ℕ → FrameRead
frame_step samples f heard =
    let m = f.place - 1 in
    cond (eqb f.place 0) (gives (cond (eqb heard space) (in_frame 1 0) hunting) Nothing)
    (cond (eqb f.place 1) (gives (cond (eqb heard space) waiting hunting) Nothing)
    (sampled (sample_at samples m) m f.digits heard))

-- The reader after the ms heard, and what each of them ends in.
abbrev pub frame_next : List Placed → Frame → ℕ → Frame
frame_next samples f heard = (frame_step samples f heard).frame

abbrev pub frame_found : List Placed → Frame → ℕ → Found
frame_found samples f heard = (frame_step samples f heard).found

abbrev pub frame_after : List Placed → Frame → List ℕ → Frame
frame_after samples f xs = state_after (frame_next samples) f xs

abbrev pub founds : List Placed → Frame → List ℕ → List Found
founds samples f xs = outputs (frame_next samples) (frame_found samples) f xs
