-- The next code with characters waiting, as the code finds it: it asks for the shift code ahead of the own code.
use Rattle.std.specs.Prelude.{Option}
use Rattle.alphabet.specs.declared.CharCode.{CharCode}
use Rattle.std.specs.Prelude.{ℕ, cond, ◌&&◌, length}
use Rattle.alphabet.specs.declared.Alphabet.{Alphabet}
use Rattle.alphabet.specs.declared.Mode.{Mode}
use Rattle.alphabet.specs.Normal.{is_code}
use Rattle.baudot.specs.declared.Sender.{Sender}
use Rattle.signal.specs.Signal.{signal}
use Rattle.burst.specs.declared.OnLine.{OnLine}
use Rattle.burst.specs.declared.Loaded.{Loaded}
use Rattle.burst.specs.Rules.{opening_shift, shift_wanted}
use Rattle.burst.specs.Line.{on_line, loaded, shift_begins, code_begins, is_opening}

-- The shift code ahead of an own code, 0 for none: the one that opens the burst, or the one that is wanted.
abbrev pub shift_ahead : Alphabet → OnLine → Sender → ℕ → ℕ
shift_ahead a l s own = cond (is_opening a l) (opening_shift s) (shift_wanted a s own)

-- The next code: the one that opens the burst, or the front character's.
abbrev pub next_for : Alphabet → OnLine → Sender → Option CharCode → Loaded
next_for a l s x = cond (is_opening a l && is_code x) (shift_begins (opening_shift s)) (code_begins a l s x)

-- A code that begins, with all its ms sent.
abbrev pub whole : Mode → Loaded → Loaded
whole mode q =
    let l = q.line in
    loaded (on_line l.part l.code.0 (length (signal mode l.code.0))) q.sender q.takes
