-- Document 01, "Line signal": the reader of a station, in each mode. A reading ms ends in a character, a fault with its
-- cause and ms (document 02, #103), or nothing.
use Rattle.std.specs.Prelude.{ℕ, cond, ◌||◌, eqb}
use Rattle.alphabet.specs.declared.Alphabet.{Alphabet}
use Rattle.alphabet.specs.declared.Alphabet.TheVariants.{Dtmf as dtmf}
use Rattle.alphabet.specs.declared.Mode.{Mode}
use Rattle.alphabet.specs.declared.Mode.TheVariants.{Baudot45, Baudot50, Dtmf, Edt}
use Rattle.alphabet.specs.declared.Reads.{Reads}
use Rattle.alphabet.specs.declared.Reads.TheVariants.{Character as character, Shift, NoRow}
use Rattle.alphabet.specs.Modes.{alphabet_of}
use Rattle.alphabet.specs.Baudot.{letters}
use Rattle.alphabet.specs.Dtmf.{is_digit, is_mark, with_mark, dtmf_code}
use Rattle.alphabet.specs.Normal.{reads}
use Rattle.baudot.specs.Reading.{shift_by}
use Rattle.frames.specs.declared.Cause.TheVariants as cause
use Rattle.frames.specs.declared.Frame.{Frame}
use Rattle.frames.specs.declared.Found.{Found}
use Rattle.frames.specs.declared.Found.TheVariants.{Nothing as nothing, Fault as fault, Code}
use Rattle.frames.specs.declared.FrameRead.{FrameRead}
use Rattle.keys.specs.declared.Keys.{Keys}
use Rattle.keys.specs.declared.KeyRead.{KeyRead}
use Rattle.reader.specs.declared.Event.{Event}
use Rattle.reader.specs.declared.Event.TheVariants.{Character, Fault, Nothing}
use Rattle.reader.specs.declared.Reader.{Reader}
use Rattle.reader.specs.declared.Reading.{Reading}
use Rattle.signal.specs.Signal.{quiet}
use Rattle.frames.specs.Samples.{samples_of}
use Rattle.frames.specs.Frames.{hunting, frame_step}
use Rattle.keys.specs.Keys.{ready, key_step}

-- A reader: its frame, its keys, its shift (1 letters, 2 figures; document 01: case), its prefix (there: marks).
abbrev pub reader : Frame → Keys → ℕ → ℕ → Reader
reader f k shift prefix = record { frame = f; keys = k; shift = shift; prefix = prefix }

-- A reader with another frame, with other keys, another shift, another prefix.
abbrev pub with_frame : Reader → Frame → Reader
with_frame r f = reader f r.keys r.shift r.prefix

abbrev pub with_keys : Reader → Keys → Reader
with_keys r k = reader r.frame k r.shift r.prefix

abbrev pub with_shift : Reader → ℕ → Reader
with_shift r shift = reader r.frame r.keys shift r.prefix

abbrev pub with_prefix : Reader → ℕ → Reader
with_prefix r prefix = reader r.frame r.keys r.shift prefix

-- A fresh reader is in letters.
abbrev pub fresh : Reader
fresh = reader hunting ready letters 0

abbrev pub ends : Reader → Event → Reading
ends r e = record { reader = r; event = e }

-- What a code ends in: a character; nothing for a shift; a fault for a code without a row, which has no ms.
abbrev pub event_of : Reads → Event
event_of (character c) = Character c
event_of (Shift s) = Nothing
event_of NoRow = Fault cause.NoRow 0

-- What a ms of a frame ends in: a code is read in the shift in force, and may select one.
abbrev pub found_event : Alphabet → ℕ → Found → Event
found_event a shift nothing = Nothing
found_event a shift (fault c m) = Fault c m
found_event a shift (Code k) = event_of (reads a shift k.0)

abbrev pub found_shift : Alphabet → ℕ → Found → ℕ
found_shift a shift nothing = shift
found_shift a shift (fault c m) = shift
found_shift a shift (Code k) = shift_by shift (reads a shift k.0)

-- What a key that counts ends in, behind a prefix: a digit closes a code; a key from A to D gives a fault,
-- whatever the prefix.
unfoldable pub key_event : ℕ → ℕ → Event
key_event prefix key =
    cond (eqb key 0 || is_mark key) Nothing
    (cond (is_digit key) (event_of (reads dtmf letters (dtmf_code prefix key))) (Fault cause.LetterKey 0))

-- The prefix after it: a digit and a fault empty it.
unfoldable pub prefix_after : ℕ → ℕ → ℕ
prefix_after prefix key = cond (eqb key 0) prefix (cond (is_mark key) (with_mark prefix key) 0)

-- One ms of reading Baudot or EDT: the frame and the shift.
abbrev pub after_frame : Alphabet → Reader → FrameRead → Reading
after_frame a r s =
    ends (with_shift (with_frame r s.frame) (found_shift a r.shift s.found)) (found_event a r.shift s.found)

abbrev pub hear_frame : Mode → Reader → ℕ → Reading
hear_frame mode r heard = after_frame (alphabet_of mode) r (frame_step (samples_of mode) r.frame heard)

-- One ms of reading DTMF: the keys and the prefix.
abbrev pub after_key : Reader → KeyRead → Reading
after_key r s =
    ends (with_prefix (with_keys r s.keys) (prefix_after r.prefix s.key)) (key_event r.prefix s.key)

abbrev pub hear_key : Reader → ℕ → Reading
hear_key r heard = after_key r (key_step r.keys heard)

-- One ms of reading.
unfoldable pub hear : Mode → Reader → ℕ → Reading
hear Baudot45 r heard = hear_frame Baudot45 r heard
hear Baudot50 r heard = hear_frame Baudot50 r heard
hear Dtmf r heard = hear_key r heard
hear Edt r heard = hear_frame Edt r heard

-- An inhibited ms drops a frame, ends the wait after a fault, so that the reader hunts, and is quiet to DTMF. Shift and
-- prefix stay.
unfoldable pub inhibited : Reader → Reader
inhibited r = with_keys (with_frame r hunting) (key_step r.keys quiet).keys
