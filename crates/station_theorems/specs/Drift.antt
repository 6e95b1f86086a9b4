-- Document 02, #111, drift: what a station's edges never change, that each entry keeps the range, how large and how
-- near a displacement is, a run that is cut in two, the modes without edges, and a run without a report.
use Rattle.std.specs.Prelude.{ℕ, ◌+◌, ◌*◌, ◌-◌, ◌≤◌, true, List, ◌++◌, ◌≡◌, ℤ, pos, neg_ℤ, ◌-ℤ◌, length, ◌≤ℤ◌}
use Rattle.alphabet.specs.declared.Alphabet.TheVariants.{Baudot}
use Rattle.alphabet.specs.declared.Mode.TheVariants.{Baudot45, Baudot50}
use Rattle.alphabet.specs.Modes.{element_of}
use Rattle.edges.specs.declared.Report.{Report}
use Rattle.edges.specs.Edges.{no_edge, no_edges, displacement}
use Rattle.edges.specs.Range.{report_in}
use Rattle.station.specs.declared.Measured.{Measured}
use Rattle.station.specs.Station.{alphabet_of_station, station_after}
use Rattle.station.specs.Measured.{station_of, measured_after, report_after}
use Rattle.station.specs.Range.{measured_in}
use Rattle.station.specs.Entries.{StationRan, open_of, offer_of, run_answer, ran_of}

-- The edges never change what a station does: after any ms it is the station that it would be without them.
abbrev pub EdgesChangeNothing : Type 0
EdgesChangeNothing =
    (x : Measured) (heard : List ℕ) → station_of (measured_after x heard) ≡ station_after (station_of x) heard

-- Each entry keeps the range. What an opening gives is in range, also if it is refused; ..
abbrev pub OpenInRange : Type 0
OpenInRange = (mode : ℕ) → measured_in (open_of mode).station ≡ true

-- .. an offer and a run, refused or not, give a station in range (with its 256 places) for one in range; ..
abbrev pub OfferInRange : Type 0
OfferInRange =
    (x : Measured) (text : List ℕ) → length x.chars ≡ 256 → measured_in x ≡ true
    → measured_in (offer_of x text).station ≡ true

abbrev pub RunInRange : Type 0
RunInRange =
    (x : Measured) (r : Report) (heard : List ℕ) (sent_room word_room : ℕ) → length x.chars ≡ 256
    → measured_in x ≡ true → measured_in (ran_of x r heard sent_room word_room).station ≡ true

-- .. and a run gives a report in range for one in range. That of no edge is.
abbrev pub ReportInRange : Type 0
ReportInRange =
    (x : Measured) (r : Report) (heard : List ℕ) (sent_room word_room : ℕ) → report_in r ≡ true
    → report_in (ran_of x r heard sent_room word_room).report ≡ true

abbrev pub NoEdgeInRange : Type 0
NoEdgeInRange = report_in no_edge ≡ true

-- A displacement lies between two bounds, and each of them is one.
abbrev pub minus : ℕ → ℤ
minus n = neg_ℤ (pos n)

pub record Between (e : ℕ) (low high : ℤ) : Type 0 where
  pub not-below : (m : ℕ) → low ≤ℤ displacement e m
  pub not_above : (m : ℕ) → displacement e m ≤ℤ high
  pub lowest_at : ℕ
  pub lowest : displacement e lowest_at ≡ low
  pub highest_at : ℕ
  pub highest : displacement e highest_at ≡ high

-- With elements of 22 ms, and of 20 ms.
abbrev pub At22 : Type 0
At22 = Between (element_of Baudot45) (minus 10) (pos 11)

abbrev pub At20 : Type 0
At20 = Between (element_of Baudot50) (minus 9) (pos 10)

-- How far apart two ms are.
abbrev pub apart : ℕ → ℕ → ℕ
apart a b = (a - b) + (b - a)

-- The displacement at ms m is m less a multiple of the element; no multiple is nearer, and none that is as near is
-- earlier.
pub record FromNearest (e m : ℕ) : Type 0 where
  pub times : ℕ
  pub less : displacement e m ≡ pos m -ℤ pos (e * times)
  pub nearest : (j : ℕ) → apart m (e * times) ≤ apart m (e * j)
  pub on_a_tie : (j : ℕ) → apart m (e * j) ≡ apart m (e * times) → times ≤ j

abbrev pub ToNearest : Type 0
ToNearest = (e m : ℕ) → 1 ≤ e → FromNearest e m

-- Some ms cut in two, at any place and also within a frame, give the same station and the same report.
pub record SameCut (x : Measured) (r : Report) (xs ys : List ℕ) : Type 0 where
  pub station : measured_after x (xs ++ ys) ≡ measured_after (measured_after x xs) ys
  pub report : report_after x r (xs ++ ys) ≡ report_after (measured_after x xs) (report_after x r xs) ys

abbrev pub CutInTwo : Type 0
CutInTwo = (x : Measured) (r : Report) (xs ys : List ℕ) → SameCut x r xs ys

-- So does a run that succeeds: both of its parts do, with slices that are long enough for them.
pub record SameRuns (whole first second : StationRan) : Type 0 where
  pub first_succeeds : first.answer ≡ 0
  pub second_succeeds : second.answer ≡ 0
  pub station : second.station ≡ whole.station
  pub report : second.report ≡ whole.report

abbrev pub RunCutInTwo : Type 0
RunCutInTwo =
    (x : Measured) (r : Report) (xs ys : List ℕ) (sent_room word_room : ℕ) → length x.chars ≡ 256
    → run_answer x r (xs ++ ys) sent_room word_room ≡ 0
    → (sent1 words1 : ℕ) → length xs ≤ sent1 → length xs ≤ words1
    → (sent2 words2 : ℕ) → length ys ≤ sent2 → length ys ≤ words2
    → let first = ran_of x r xs sent1 words1 in
    let second = ran_of first.station first.report ys sent2 words2 in
    SameRuns (ran_of x r (xs ++ ys) sent_room word_room) first second

-- In DTMF and EDT no edge ever waits, and none ever counts.
pub record NeverAnEdge (x : Measured) : Type 0 where
  pub none-waits : (heard : List ℕ) → (measured_after x heard).edges ≡ no_edges
  pub none-counts : (r : Report) (heard : List ℕ) → report_in r ≡ true → report_after x r heard ≡ r

abbrev pub OnlyInBaudot : Type 0
OnlyInBaudot =
    (x : Measured) → measured_in x ≡ true → (alphabet_of_station (station_of x) ≡ Baudot → ⊥) → NeverAnEdge x

-- A run without a report, which is one with the report of no edge, is never refused with 18.
abbrev pub Never18 : Type 0
Never18 =
    (x : Measured) (heard : List ℕ) (sent_room word_room : ℕ) → run_answer x no_edge heard sent_room word_room ≡ 18 → ⊥
