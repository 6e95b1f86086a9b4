-- Document 01, "Questions in order", and document 02, #111: the station's entries. The first no decides; a refusal,
-- except 2, gives back the station and the report as given and leaves the slices; success writes one sent ms for each
-- ms heard and the words from the front, and beyond that the slices stay.
use Rattle.std.specs.Prelude.{ℕ, Bool, cond, ◌&&◌, List, eqb, leb, length}
use Rattle.lists.specs.Lists.{all_at_most, most_ms, written}
use Rattle.alphabet.specs.Modes.{highest_level}
use Rattle.alphabet.specs.Normal.{all_chars}
use Rattle.edges.specs.declared.Report.{Report}
use Rattle.edges.specs.Range.{most_edges, report_in}
use Rattle.queue.specs.Queue.{room}
use Rattle.station.specs.declared.Measured.{Measured}
use Rattle.station.specs.Station.{mode_of_station, alphabet_of_station, queue_of, offered_to, sent_by, words_by}
use Rattle.station.specs.Measured.{measured, station_of, fresh_measured, measured_after, report_after}
use Rattle.station.specs.Range.{measured_in}

-- A station after an opening or an offer, and 0 or the number of the refusal.
pub record StationAnswered : Type 0 where
  pub station : Measured
  pub answer : ℕ

abbrev pub answered : Measured → ℕ → StationAnswered
answered x answer = record { station = x; answer = answer }

-- Opening. 2: is the mode 1 to 4? A refusal gives a fresh station of mode 1.
abbrev pub is_mode : ℕ → Bool
is_mode mode = leb 1 mode && leb mode 4

unfoldable pub open_of : ℕ → StationAnswered
open_of mode = cond (is_mode mode) (answered (fresh_measured mode) 0) (answered (fresh_measured 1) 2)

-- Offering. 1: in range? 3: is every offered byte at most 127? 4: is there space for all that send something?
unfoldable pub offer_answer : Measured → List ℕ → ℕ
offer_answer x text =
    let s = station_of x in
    cond (measured_in x)
    (cond (all_chars text)
    (cond (room (alphabet_of_station s) (queue_of s) text) 0 4) 3) 1

unfoldable pub offer_of : Measured → List ℕ → StationAnswered
offer_of x text =
    let answer = offer_answer x text in
    cond (eqb answer 0) (answered (measured (offered_to (station_of x) text) x.edges) 0) (answered x answer)

-- Running. 1: are the station and the report in range? 5: at most 4,096 ms? 6: every heard ms a value of the mode? 7,
-- 8: are the sent slice and the word slice at least as long as the heard one? 18: does the report stay within 65,536
-- edges?
unfoldable pub run_answer : Measured → Report → List ℕ → ℕ → ℕ → ℕ
run_answer x r heard sent_room word_room =
    cond (measured_in x && report_in r)
    (cond (leb (length heard) most_ms)
    (cond (all_at_most (highest_level (mode_of_station (station_of x))) heard)
    (cond (leb (length heard) sent_room)
    (cond (leb (length heard) word_room)
    (cond (leb (report_after x r heard).edges most_edges) 0 18) 8) 7) 6) 5) 1

-- A station and a report after a run, 0 or the number of the refusal, and how many words were written.
pub record StationRan : Type 0 where
  pub station : Measured
  pub report : Report
  pub answer : ℕ
  pub words : ℕ

abbrev pub ran : Measured → Report → ℕ → ℕ → StationRan
ran x r answer words = record { station = x; report = r; answer = answer; words = words }

unfoldable pub ran_of : Measured → Report → List ℕ → ℕ → ℕ → StationRan
ran_of x r heard sent_room word_room =
    let answer = run_answer x r heard sent_room word_room in
    cond (eqb answer 0)
    (ran (measured_after x heard) (report_after x r heard) 0 (length (words_by (station_of x) heard)))
    (ran x r answer 0)

-- The slices after a run.
unfoldable pub sent_after : Measured → Report → List ℕ → ℕ → List ℕ → List ℕ
sent_after x r heard word_room slice =
    cond (eqb (run_answer x r heard (length slice) word_room) 0) (written (sent_by (station_of x) heard) slice) slice

unfoldable pub words_after : Measured → Report → List ℕ → ℕ → List ℕ → List ℕ
words_after x r heard sent_room slice =
    cond (eqb (run_answer x r heard sent_room (length slice)) 0) (written (words_by (station_of x) heard) slice) slice
