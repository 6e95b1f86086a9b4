-- Document 01, "Demand 3 is a single claim": lists of offers and runs. Each call is played by the definitions that the
-- contracts of the station's entries cite, on the station that the last call returned or left.
use Rattle.std.specs.Prelude.{ℕ, zero, suc, ◌-◌, Bool, cond, List, [], ◌∷◌, map, eqb, length, take}
use Rattle.lists.specs.Steps.{state_after, joined}
use Rattle.edges.specs.declared.Report.{Report}
use Rattle.edges.specs.Edges.{no_edge}
use Rattle.station.specs.declared.Measured.{Measured}
use Rattle.station.specs.Entries.{open_of, offer_of, ran_of, sent_after, words_after}
use Rattle.demand3.specs.Model.{Step, Offer, Ms, ms_in}

-- An offer of some bytes. A run with a report (document 02, #111), on some heard ms, with a sent slice and a word
-- slice. Each is of any length and content. A run without a report does what a run with a report of no edge does, as
-- the contract of cq_station_run says; so both kinds of runs are here.
pub data Call : Type 0 where
  OfferCall : List ℕ → Call
  RunCall : Report → List ℕ → List ℕ → List ℕ → Call

abbrev pub plain_run : List ℕ → List ℕ → List ℕ → Call
plain_run heard sent words = RunCall no_edge heard sent words

-- A list starts with the station an opening gave.
abbrev pub opened : ℕ → Measured
opened mode = (open_of mode).station

-- The answer to a call, and the station that it returns or leaves.
abbrev pub answer : Measured → Call → ℕ
answer s (OfferCall text) = (offer_of s text).answer
answer s (RunCall r heard sent words) = (ran_of s r heard (length sent) (length words)).answer

abbrev pub left : Measured → Call → Measured
left s (OfferCall text) = (offer_of s text).station
left s (RunCall r heard sent words) = (ran_of s r heard (length sent) (length words)).station

-- The report that a run gives back; an offer has none.
abbrev pub report_left : Measured → Call → Report
report_left s (OfferCall text) = no_edge
report_left s (RunCall r heard sent words) = (ran_of s r heard (length sent) (length words)).report

abbrev pub succeeds : Measured → Call → Bool
succeeds s c = eqb (answer s c) 0

-- What a call hands out if it succeeds: the front of its sent slice, one ms for each heard; the front of its word
-- slice, as many words as the run counts.
abbrev pub sent_if : Measured → Call → List ℕ
sent_if s (OfferCall text) = []
sent_if s (RunCall r heard sent words) = take (length heard) (sent_after s r heard (length words) sent)

abbrev pub words_if : Measured → Call → List ℕ
words_if s (OfferCall text) = []
words_if s (RunCall r heard sent words) =
    take (ran_of s r heard (length sent) (length words)).words (words_after s r heard (length sent) words)

-- What goes into the send model if it succeeds: an offer with its text, a run ms by ms.
abbrev pub steps_if : Call → List Step
steps_if (OfferCall text) = Offer text ∷ []
steps_if (RunCall r heard sent words) = map Ms heard

-- A refused call hands out nothing, changes nothing and takes no ms.
abbrev pub sent_for : Measured → Call → List ℕ
sent_for s c = cond (succeeds s c) (sent_if s c) []

abbrev pub words_for : Measured → Call → List ℕ
words_for s c = cond (succeeds s c) (words_if s c) []

abbrev pub steps_for : Measured → Call → List Step
steps_for s c = cond (succeeds s c) (steps_if c) []

-- A list of calls: the station that it leaves; what its successful runs hand out, end to end; the steps of its model.
abbrev pub left_by : Measured → List Call → Measured
left_by s cs = state_after left s cs

abbrev pub sent_by : Measured → List Call → List ℕ
sent_by s cs = joined left sent_for s cs

abbrev pub words_by : Measured → List Call → List ℕ
words_by s cs = joined left words_for s cs

abbrev pub steps_by : Measured → List Call → List Step
steps_by s cs = joined left steps_for s cs

-- A call that succeeds, cut after n ms: a run on the first n ms that it heard.
abbrev pub cut_if : Call → ℕ → Call
cut_if (OfferCall text) n = OfferCall text
cut_if (RunCall r heard sent words) n = RunCall r (take n heard) sent words

abbrev pub cut_for : Measured → Call → ℕ → Call
cut_for s c n = cond (succeeds s c) (cut_if c n) c

-- The calls up to a cut after the first n ms.
unfoldable pub up_to : Measured → List Call → ℕ → List Call
up_to s [] n = []
up_to s (c ∷ cs) zero = []
up_to s (c ∷ cs) (suc n) = cut_for s c (suc n) ∷ up_to (left s c) cs (suc n - ms_in (steps_for s c))
