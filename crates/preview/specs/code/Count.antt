-- How the code counts the ms until a station is idle: over the characters that wait, not over ms.
use Rattle.std.specs.Prelude.{ℕ, ◌+◌, ◌-◌, true, cond, not, ◌&&◌, List, eqb, length}
use Rattle.alphabet.specs.declared.Mode.{Mode}
use Rattle.alphabet.specs.Modes.{alphabet_of, preamble_of}
use Rattle.baudot.specs.declared.Sender.{Sender}
use Rattle.baudot.specs.Sending.{sender, shift_code}
use Rattle.baudot.specs.Text.{text_codes}
use Rattle.signal.specs.Signal.{signal, signals}
use Rattle.burst.specs.declared.OnLine.{OnLine}
use Rattle.burst.specs.Rules.{free_ms, opening_shift}
use Rattle.burst.specs.Line.{in_burst, part_ms, begun, is_opening}
use Rattle.half_duplex.specs.Core.{mode_in}
use Rattle.queue.specs.Queue.{waiting_of}
use Rattle.station.specs.declared.Station.{Station}
use Rattle.station.specs.Station.{queue_of}

-- The ms of a code.
abbrev pub code_ms : Mode → ℕ → ℕ
code_ms mode k = length (signal mode k)

-- The ms of the codes that characters send, one after the other, in a burst that has opened.
unfoldable pub chars_ms : Mode → Sender → List ℕ → ℕ
chars_ms mode s cs = length (signals mode (text_codes (alphabet_of mode) s cs))

-- The ms behind the part that is on the line: the shift code that opens the burst, and those characters.
abbrev pub behind_ms : Mode → OnLine → Sender → List ℕ → ℕ
behind_ms mode l s cs =
    let w = opening_shift s in
    cond (is_opening (alphabet_of mode) l) (code_ms mode (shift_code w) + chars_ms mode (sender w 0) cs)
    (chars_ms mode s cs)

-- The ms until then: those left of the part that is on the line; in no burst, until the line is free, and of the
-- preamble.
abbrev pub part_left : Mode → OnLine → ℕ
part_left mode l = length (part_ms mode l) - l.at

abbrev pub ahead_ms : Mode → OnLine → ℕ → ℕ
ahead_ms mode l silence = cond (in_burst l) (part_left mode l) (free_ms - silence + preamble_of mode)

-- A burst takes one ms at least: in a station that no list of calls gives, its last part may be over.
abbrev pub some_ms : ℕ → ℕ
some_ms n = cond (eqb n 0) 1 n

-- The ms until a station is idle that is not: by its mode, what is on the line, its sender, its silence, and those that
-- wait.
abbrev pub busy_ms : Mode → OnLine → Sender → ℕ → List ℕ → ℕ
busy_ms mode l s silence cs = some_ms (ahead_ms mode l silence + behind_ms mode (begun true l) s cs)

-- .. of any station, with how many wait.
abbrev pub left_of : Mode → OnLine → Sender → ℕ → ℕ → List ℕ → ℕ
left_of mode l s n silence cs = cond (not (in_burst l) && eqb n 0) 0 (busy_ms mode l s silence cs)

abbrev pub ms_left : Station → ℕ
ms_left s =
    let c = s.core in
    left_of (mode_in c) c.line c.sender c.waiting c.silence (waiting_of (queue_of s))
