-- Which calls succeed, told by the send model and, for a run, by its report: none is refused without a reason of the
-- documents.
use Rattle.std.specs.Prelude.{ℕ, ◌+◌, ◌≡◌, Bool, true, ◌&&◌, List, leb, length}
use Rattle.lists.specs.Lists.{most_ms, all_at_most}
use Rattle.alphabet.specs.declared.Mode.{Mode}
use Rattle.alphabet.specs.Modes.{mode_of, alphabet_of, highest_level}
use Rattle.alphabet.specs.Normal.{all_chars}
use Rattle.edges.specs.Range.{most_edges, is_empty, report_in}
use Rattle.queue.specs.Queue.{waiters}
use Rattle.station.specs.declared.Measured.{Measured}
use Rattle.station.specs.Measured.{report_after}
use Rattle.demand3.specs.Model.{Model, fresh_model, model_after}
use Rattle.demand3.specs.Calls.{Call, OfferCall, RunCall, opened, succeeds, left_by, steps_by}

-- Questions 3 and 4, the latter by those that wait in the model; 5 to 8. (After calls on a fresh station its own
-- numbers are in range, as question 1 asks.)
unfoldable pub accepts : Mode → Model → Call → Bool
accepts mode m (OfferCall text) =
    all_chars text && leb (length m.waiting + length (waiters (alphabet_of mode) text)) 256
accepts mode m (RunCall r heard sent words) =
    leb (length heard) most_ms && all_at_most (highest_level mode) heard && leb (length heard) (length sent)
    && leb (length heard) (length words)

-- Document 02, #111: is the run's report in range, and does it stay within 65,536 edges? (Question 1, and 18.)
unfoldable pub has_room : Measured → Call → Bool
has_room s (OfferCall text) = true
has_room s (RunCall r heard sent words) = report_in r && leb (report_after s r heard).edges most_edges

-- The model that some calls leave.
abbrev pub model_left : ℕ → List Call → Model
model_left mode calls = model_after (mode_of mode) fresh_model (steps_by (opened mode) calls)

-- After any calls, a call succeeds exactly where the model that they leave accepts it and its report has room.
abbrev pub SucceedsAsModel : Type 0
SucceedsAsModel = (mode : ℕ) (past : List Call) (c : Call)
    → let s = left_by (opened mode) past in
    succeeds s c ≡ (accepts (mode_of mode) (model_left mode past) c && has_room s c)

-- An offer, or a run with a report of no edge, as one without a report.
unfoldable pub is_plain : Call → Bool
is_plain (OfferCall text) = true
is_plain (RunCall r heard sent words) = is_empty r

-- These are never refused for a report: the model alone tells which of them succeed.
abbrev pub PlainAsModel : Type 0
PlainAsModel = (mode : ℕ) (past : List Call) (c : Call) → is_plain c ≡ true
    → succeeds (left_by (opened mode) past) c ≡ accepts (mode_of mode) (model_left mode past) c
