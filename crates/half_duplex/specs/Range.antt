-- Document 01, question 1, as far as it asks about a station beside its queue.
use Rattle.std.specs.Prelude.{Bool, ◌&&◌, leb}
use Rattle.baudot.specs.Sending.{in_range as sender_in}
use Rattle.reader.specs.Range.{reader_in}
use Rattle.burst.specs.Rules.{free_ms, after_ms}
use Rattle.burst.specs.Range.{line_in}
use Rattle.half_duplex.specs.declared.Core.{Core}
use Rattle.half_duplex.specs.Core.{mode_in}

-- Mode 1 to 4; the timers.
abbrev pub timers_in : Core → Bool
timers_in c = leb 1 c.mode && leb c.mode 4 && leb c.silence free_ms && leb c.inhibited after_ms

-- What is on the line, the sender and the reader are in range, each by its own test.
abbrev pub parts_in : Core → Bool
parts_in c = line_in (mode_in c) c.line && sender_in c.sender && reader_in (mode_in c) c.reader

unfoldable pub core_in : Core → Bool
core_in c = timers_in c && parts_in c
