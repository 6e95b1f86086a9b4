-- One ms of a station, beside its queue: of those waiting it sees how many there are and the one in front.
use Rattle.std.specs.Prelude.{ℕ, ◌+◌, ◌-◌, Bool, cond, ltb}
use Rattle.alphabet.specs.declared.Mode.{Mode}
use Rattle.alphabet.specs.Modes.{mode_of}
use Rattle.baudot.specs.declared.Sender.{Sender}
use Rattle.baudot.specs.Sending.{fresh as fresh_sender}
use Rattle.reader.specs.declared.Event.{Event}
use Rattle.reader.specs.declared.Event.TheVariants.{Nothing}
use Rattle.reader.specs.declared.Reader.{Reader}
use Rattle.reader.specs.Reader.{fresh as fresh_reader, hear, inhibited}
use Rattle.burst.specs.declared.OnLine.{OnLine}
use Rattle.burst.specs.declared.Loaded.{Loaded}
use Rattle.burst.specs.Rules.{free_ms, may_begin, may_end, is_inhibited, inhibited_after, is_silent}
use Rattle.burst.specs.Line.{idle, in_burst, begun, next_code, level_on, one_gone, closed}
use Rattle.half_duplex.specs.declared.Core.{Core}
use Rattle.half_duplex.specs.declared.Stepped.{Stepped}

-- How many wait, the silence (in ms, up to 300), the inhibited ms to come, what is on the line, the sender, the reader,
-- the mode's number.
abbrev pub core : ℕ → ℕ → ℕ → OnLine → Sender → Reader → ℕ → Core
core waiting silence inhibited_ms line sender reader mode = record {
  waiting = waiting;
  silence = silence;
  inhibited = inhibited_ms;
  line = line;
  sender = sender;
  reader = reader;
  mode = mode;
}

-- A core with another of its parts.
abbrev pub with_waiting : Core → ℕ → Core
with_waiting c n = core n c.silence c.inhibited c.line c.sender c.reader c.mode

abbrev pub with_silence : Core → ℕ → Core
with_silence c n = core c.waiting n c.inhibited c.line c.sender c.reader c.mode

abbrev pub with_inhibited : Core → ℕ → Core
with_inhibited c n = core c.waiting c.silence n c.line c.sender c.reader c.mode

abbrev pub with_line : Core → OnLine → Core
with_line c l = core c.waiting c.silence c.inhibited l c.sender c.reader c.mode

abbrev pub with_sender : Core → Sender → Core
with_sender c s = core c.waiting c.silence c.inhibited c.line s c.reader c.mode

abbrev pub with_reader : Core → Reader → Core
with_reader c r = core c.waiting c.silence c.inhibited c.line c.sender r c.mode

-- A fresh line is free.
abbrev pub fresh_core : ℕ → Core
fresh_core mode = core 0 free_ms 0 idle fresh_sender fresh_reader mode

-- Silence grows by a ms without signal; otherwise it is 0 again. No rule asks for more than 300.
unfoldable pub silence_after : Bool → ℕ → ℕ
silence_after silent silence = cond silent (cond (ltb silence free_ms) (silence + 1) silence) 0

-- One ms of the reader, and what it ends in.
abbrev pub reader_ms : Mode → Bool → Reader → ℕ → Reader
reader_ms mode is_inhibited r heard = cond is_inhibited (inhibited r) (hear mode r heard).reader

abbrev pub event_ms : Mode → Bool → Reader → ℕ → Event
event_ms mode is_inhibited r heard = cond is_inhibited Nothing (hear mode r heard).event

abbrev pub mode_in : Core → Mode
mode_in c = mode_of c.mode

-- A ms is told when a burst begins and ends: `begins`, one is to begin now if there is none; `ends`, this one is to end
-- with this code. Within each ms, sending is settled first.
abbrev pub settled_by : Bool → Core → ℕ → Loaded
settled_by begins c front = next_code (mode_in c) c.waiting front (begun begins c.line) c.sender

-- One character fewer waits if it is taken.
abbrev pub waiting_after : Bool → ℕ → ℕ
waiting_after takes waiting = cond takes (waiting - 1) waiting

-- The core after what a ms starts with.
abbrev pub core_from_by : Bool → Core → Loaded → ℕ → Core
core_from_by ends c l heard =
    let burst = in_burst l.line in
    let deaf = is_inhibited burst c.inhibited in
    core (waiting_after l.takes c.waiting)
    (silence_after (is_silent deaf heard) c.silence)
    (inhibited_after burst c.inhibited)
    (closed (mode_in c) ends (one_gone (mode_in c) l.line))
    l.sender
    (reader_ms (mode_in c) deaf c.reader heard)
    c.mode

-- All that a ms does, after what it starts with.
abbrev pub stepped_by : Bool → Core → Loaded → ℕ → Stepped
stepped_by ends c l heard = record {
  core = core_from_by ends c l heard;
  sent = level_on (mode_in c) l.line;
  event = event_ms (mode_in c) (is_inhibited (in_burst l.line) c.inhibited) c.reader heard;
}

-- A station by itself: a burst begins if characters wait and the line is free, and ends if none waits after the ms.
abbrev pub begins_in : Core → Bool
begins_in c = may_begin c.waiting c.silence

abbrev pub ends_in : Core → Loaded → Bool
ends_in c l = may_end (waiting_after l.takes c.waiting)

unfoldable pub settled : Core → ℕ → Loaded
settled c front = settled_by (begins_in c) c front

unfoldable pub core_from : Core → Loaded → ℕ → Core
core_from c l heard = core_from_by (ends_in c l) c l heard

abbrev pub stepped : Core → Loaded → ℕ → Stepped
stepped c l heard = stepped_by (ends_in c l) c l heard

-- What is sent in the ms, and whether it is inhibited.
abbrev pub sent_in : Core → ℕ → ℕ
sent_in c front = level_on (mode_in c) (settled c front).line

abbrev pub inhibited_in : Core → ℕ → Bool
inhibited_in c front = is_inhibited (in_burst (settled c front).line) c.inhibited

-- What it ends in.
abbrev pub event_in : Core → ℕ → ℕ → Event
event_in c front heard = event_ms (mode_in c) (inhibited_in c front) c.reader heard

-- The core after a ms.
abbrev pub core_after : Core → ℕ → ℕ → Core
core_after c front heard = core_from c (settled c front) heard
