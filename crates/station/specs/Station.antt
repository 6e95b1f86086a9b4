-- Document 01, "The station's turn": a station, offer by offer and ms by ms.
use Rattle.std.specs.Prelude.{ℕ, Bool, false, cond, ◌||◌, List, [], ◌∷◌, eqb, get_or, replicate}
use Rattle.lists.specs.Steps.{state_after, outputs}
use Rattle.alphabet.specs.declared.Alphabet.{Alphabet}
use Rattle.alphabet.specs.declared.Alphabet.TheVariants.{Baudot, Dtmf, Edt}
use Rattle.alphabet.specs.declared.Mode.{Mode}
use Rattle.alphabet.specs.Baudot.{letters}
use Rattle.alphabet.specs.Modes.{alphabet_of}
use Rattle.reader.specs.declared.Event.{Event}
use Rattle.reader.specs.declared.Reader.{Reader}
use Rattle.reader.specs.Reader.{with_shift}
use Rattle.reader.specs.Words.{words_of}
use Rattle.half_duplex.specs.declared.Core.{Core}
use Rattle.half_duplex.specs.Core.{with_waiting, with_reader, fresh_core, mode_in, settled, sent_in, event_in, core_after}
use Rattle.queue.specs.Queue.{Queue, queue, offered, moved}
use Rattle.station.specs.declared.Station.{Station}

-- A core, and the characters that wait, the front one first; those behind them mean nothing.
abbrev pub station : Core → List ℕ → Station
station c chars = record { core = c; chars = chars }

abbrev pub mode_of_station : Station → Mode
mode_of_station s = mode_in s.core

abbrev pub alphabet_of_station : Station → Alphabet
alphabet_of_station s = alphabet_of (mode_of_station s)

abbrev pub queue_of : Station → Queue
queue_of s = queue s.core.waiting s.chars

-- A fresh station: none waits.
unfoldable pub fresh_station : ℕ → Station
fresh_station mode = station (fresh_core mode) (replicate 256 0)

-- DEL, when offered, puts the station's own reader in letters; in Baudot alone.
unfoldable pub has_del : List ℕ → Bool
has_del [] = false
has_del (c ∷ cs) = eqb c 0x7f || has_del cs

abbrev pub reader_offered : Alphabet → List ℕ → Reader → Reader
reader_offered Baudot cs r = cond (has_del cs) (with_shift r letters) r
reader_offered Dtmf cs r = r
reader_offered Edt cs r = r

-- A station with another queue and another reader.
abbrev pub core_with : Core → ℕ → Reader → Core
core_with c waiting r = with_reader (with_waiting c waiting) r

-- An offer that succeeds puts its characters that send something behind those waiting.
unfoldable pub offered_to : Station → List ℕ → Station
offered_to s text =
    let q = offered (alphabet_of_station s) (queue_of s) text in
    station (core_with s.core q.waiting (reader_offered (alphabet_of_station s) text s.core.reader)) q.chars

-- The one in front is always taken first, and the others move up.
abbrev pub front : Station → ℕ
front s = get_or s.chars 0 0

abbrev pub chars_after : Bool → List ℕ → List ℕ
chars_after takes chars = cond takes (moved chars) chars

-- One ms: the station after it, what is sent in it, what it ends in.
unfoldable pub station_ms : Station → ℕ → Station
station_ms s heard =
    station (core_after s.core (front s) heard) (chars_after (settled s.core (front s)).takes s.chars)

unfoldable pub sent_ms : Station → ℕ → ℕ
sent_ms s heard = sent_in s.core (front s)

unfoldable pub event_of : Station → ℕ → Event
event_of s heard = event_in s.core (front s) heard

-- The ms of a list, one after the other: the station after them, one sent ms for each, and the words in order.
abbrev pub station_after : Station → List ℕ → Station
station_after s heard = state_after station_ms s heard

abbrev pub sent_by : Station → List ℕ → List ℕ
sent_by s heard = outputs station_ms sent_ms s heard

abbrev pub events_by : Station → List ℕ → List Event
events_by s heard = outputs station_ms event_of s heard

abbrev pub words_by : Station → List ℕ → List ℕ
words_by s heard = words_of (events_by s heard)
