-- Document 01, "The station's turn" (here: half-duplex access): when a burst begins and ends, which code comes next,
-- and when the receiver is inhibited. The send model and the station both go by these.
use Rattle.std.specs.Prelude.{ℕ, ◌-◌, Bool, true, false, cond, ◌&&◌, ◌||◌, eqb, leb, ltb}
use Rattle.alphabet.specs.declared.Alphabet.{Alphabet}
use Rattle.alphabet.specs.declared.Alphabet.TheVariants.{Baudot, Dtmf, Edt}
use Rattle.alphabet.specs.Baudot.{letters}
use Rattle.baudot.specs.declared.Sender.{Sender}
use Rattle.baudot.specs.Sending.{wanted, counted}
use Rattle.signal.specs.Signal.{quiet}

-- The line is free: 300 ms without signal from the other end.
abbrev pub free_ms : ℕ
free_ms = 300

-- A burst begins if characters wait and the line is free.
unfoldable pub may_begin : ℕ → ℕ → Bool
may_begin waiting silence = ltb 0 waiting && leb free_ms silence

-- It ends with the ms in which a code ends and none waits.
unfoldable pub may_end : ℕ → Bool
may_end waiting = eqb waiting 0

-- Document 02, #101: behind its preamble a Baudot burst opens with a shift code (there: case code), which takes no
-- character. DTMF and EDT have no shifts.
abbrev pub opens_with_shift : Alphabet → Bool
opens_with_shift Baudot = true
opens_with_shift Dtmf = false
opens_with_shift Edt = false

-- It is that of the shift in force, or of letters on a fresh sender.
abbrev pub opening_shift : Sender → ℕ
opening_shift s = cond (eqb s.shift 0) letters s.shift

-- The shift code that the sending rule wants ahead of an own code, 0 for none, and the sender after an own code.
abbrev pub shift_wanted : Alphabet → Sender → ℕ → ℕ
shift_wanted Baudot s own = wanted s own
shift_wanted Dtmf s own = 0
shift_wanted Edt s own = 0

abbrev pub sender_after_own : Alphabet → Sender → Sender
sender_after_own Baudot s = counted s
sender_after_own Dtmf s = s
sender_after_own Edt s = s

-- The receiver is inhibited in a burst and for 300 ms after it.
abbrev pub after_ms : ℕ
after_ms = 300

abbrev pub is_inhibited : Bool → ℕ → Bool
is_inhibited burst inhibited_ms = burst || ltb 0 inhibited_ms

-- The inhibited ms that are still to come, after a ms.
abbrev pub inhibited_after : Bool → ℕ → ℕ
inhibited_after burst inhibited_ms = cond burst after_ms (inhibited_ms - 1)

-- A ms is without signal if it was heard as 0; inhibited ms count as without signal.
abbrev pub is_silent : Bool → ℕ → Bool
is_silent inhibited heard = inhibited || eqb heard quiet
