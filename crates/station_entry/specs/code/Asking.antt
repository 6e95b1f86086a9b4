-- The questions of a run but the last, and what a count tells of a run.
use Rattle.std.specs.Prelude.{ℕ, ◌≤◌, ◌≡◌, Bool, true, ◌&&◌, List, length}
use Rattle.lists.specs.Lists.{all_at_most}
use Rattle.alphabet.specs.Modes.{highest_level}
use Rattle.edges.specs.declared.Report.{Report}
use Rattle.edges.specs.Edges.{no_edge}
use Rattle.edges.specs.Range.{report_in}
use Rattle.half_duplex.specs.Core.{mode_in}
use Rattle.station.specs.declared.Measured.{Measured}
use Rattle.station.specs.Measured.{report_after}
use Rattle.station.specs.Range.{measured_in}
use Rattle.station.specs.Entries.{run_answer}

-- The answer to each of them is yes, and no ms is above the highest level.
pub record Yes (x : Measured) (heard : List ℕ) (sent_room word_room highest : ℕ) : Type 0 where
  pub ranged : measured_in x ≡ true
  pub few : length heard ≤ 4_096
  pub levels : all_at_most highest heard ≡ true
  pub low : highest ≤ highest_level (mode_in x.core)
  pub sent_fits : length heard ≤ sent_room
  pub words_fit : length heard ≤ word_room

-- A run is refused with this number, with whatever report in range.
abbrev pub No : Measured → List ℕ → ℕ → ℕ → ℕ → Type 0
No x heard sent_room word_room answer =
    (r : Report) → report_in r ≡ true → run_answer x r heard sent_room word_room ≡ answer

-- Questions 1 and 6: the station is in range, and every heard ms is a value of its mode.
unfoldable pub all_in : Measured → List ℕ → Bool
all_in x heard = measured_in x && all_at_most (highest_level (mode_in x.core)) heard

-- What a count tells: a refusal of the report's own, 1 or 18; else that the run with the report answers as the one
-- without it, and the report after it, if it succeeds.
pub record Counts (x : Measured) (r : Report) (heard : List ℕ) (sent_room word_room answer : ℕ) (report : Report) : Type
    0
  where
    pub refuses : (answer ≡ 0 → ⊥) → run_answer x r heard sent_room word_room ≡ answer
    pub as_plain : answer ≡ 0
        → run_answer x r heard sent_room word_room ≡ run_answer x no_edge heard sent_room word_room
    pub counted : answer ≡ 0 → run_answer x no_edge heard sent_room word_room ≡ 0 → report ≡ report_after x r heard
