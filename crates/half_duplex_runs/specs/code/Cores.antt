-- A core after some ms that go alike.
use Rattle.std.specs.Prelude.{ℕ, zero, suc, ◌+◌, ◌-◌, Bool, false, cond, ◌&&◌, List, eqb, ltb}
use Rattle.lists.specs.Steps.{state_after}
use Rattle.baudot.specs.declared.Sender.{Sender}
use Rattle.frames.specs.Frames.{hunting}
use Rattle.keys.specs.Keys.{needs}
use Rattle.reader.specs.declared.Reader.{Reader}
use Rattle.reader.specs.Reader.{reader}
use Rattle.half_duplex.specs.declared.Core.{Core}
use Rattle.burst.specs.declared.OnLine.{OnLine}
use Rattle.burst.specs.declared.Loaded.{Loaded}
use Rattle.burst.specs.Rules.{free_ms, after_ms, may_end, is_silent}
use Rattle.burst.specs.Line.{further, closed}
use Rattle.half_duplex.specs.Core.{with_waiting, with_silence, with_inhibited, with_line, with_sender, with_reader}
use Rattle.half_duplex.specs.Core.{mode_in, silence_after, waiting_after}

-- The silence after n ms without signal, and after ms that the receiver hears.
abbrev pub silence_for : ℕ → ℕ → ℕ
silence_for silence n = cond (ltb (silence + n) free_ms) (silence + n) free_ms

abbrev pub silence_next : ℕ → ℕ → ℕ
silence_next silence heard = silence_after (is_silent false heard) silence

abbrev pub silence_over : ℕ → List ℕ → ℕ
silence_over silence heard = state_after silence_next silence heard

-- An idle reader: hunting, with no key heard and no quiet needed.
unfoldable pub is_idle : Reader → Bool
is_idle r =
    eqb r.frame.place 0 && eqb r.frame.digits 0
    && eqb r.keys.key 0 && eqb r.keys.ms 0 && eqb r.keys.needed 0

-- A reader after n inhibited ms.
unfoldable pub deaf_reader : Reader → ℕ → Reader
deaf_reader r zero = r
deaf_reader r (suc n) = reader hunting (needs (r.keys.needed - suc n)) r.shift r.prefix

-- The inhibited ms to come after n ms of a burst.
unfoldable pub burst_left : ℕ → ℕ → ℕ
burst_left inhibited_ms zero = inhibited_ms
burst_left inhibited_ms (suc n) = after_ms

-- In which what a ms starts with is loaded already.
unfoldable pub loaded_core : Core → Loaded → Core
loaded_core c l = with_sender (with_line (with_waiting c (waiting_after l.takes c.waiting)) l.line) l.sender

-- After n inhibited ms, of which so many are still to come.
abbrev pub deaf_core : Core → ℕ → ℕ → Core
deaf_core c n left =
    with_reader (with_inhibited (with_silence c (silence_for c.silence n)) left) (deaf_reader c.reader n)

-- After n ms of a part; after n inhibited ms in no burst; after ms that the receiver hears.
unfoldable pub sent_for : Core → ℕ → Core
sent_for c n =
    with_line (deaf_core c n (burst_left c.inhibited n)) (closed (mode_in c) (may_end c.waiting) (further c.line n))

unfoldable pub deaf_for : Core → ℕ → Core
deaf_for c n = deaf_core c n (c.inhibited - n)

unfoldable pub listened : Core → ℕ → Reader → Core
listened c silence r = with_reader (with_silence c silence) r

-- After whole codes: so many characters are taken, a sender, what is on the line, and the ms that went.
unfoldable pub coded_core : Core → ℕ → Sender → OnLine → ℕ → Core
coded_core c taken sender line n =
    with_sender (with_line (with_waiting (deaf_core c n (burst_left c.inhibited n)) (c.waiting - taken)) line) sender
