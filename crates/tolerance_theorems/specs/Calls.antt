-- The tolerance carried up to lists of calls: in any cutting into runs the words are the same.
use Rattle.std.specs.Prelude.{ℕ, true, List, ◌∷◌, ◌++◌, map, ◌≡◌}
use Rattle.edges.specs.declared.Report.{Report}
use Rattle.station.specs.declared.Measured.{Measured}
use Rattle.station.specs.Measured.{station_of}
use Rattle.demand3.specs.Model.{Ms}
use Rattle.demand3.specs.Calls.{Call, RunCall, left, succeeds, left_by, words_by, steps_by}
use Rattle.tolerance_theorems.specs.Station.{NeverInhibited, Arrives, HandsOut}

-- The calls hear the ms ys: end to end, these are the ms of the runs that succeed, and no offer succeeds. Refused calls
-- may stand among them.
abbrev pub Hear : Measured → List Call → List ℕ → Type 0
Hear s cs ys = steps_by s cs ≡ map Ms ys

-- Runs that all succeed hear what each of them heard, end to end.
abbrev pub RunsHear : Type 0
RunsHear =
    (s : Measured) (r : Report) (heard sent words : List ℕ) (cs : List Call) (ys : List ℕ)
    → let c = RunCall r heard sent words in
    succeeds s c ≡ true → Hear (left s c) cs ys → Hear s (c ∷ cs) (heard ++ ys)

-- A station whose calls hear a burst with its edges moved hands out the words of the burst's codes, however the ms are
-- cut into runs.
abbrev pub CallsBear : Type 0
CallsBear =
    (s : Measured) (cs : List Call) (ks ys : List ℕ) → Hear s cs ys → Arrives (station_of s) ks ys
    → NeverInhibited (station_of s) ys → HandsOut (station_of s) ks (words_by s cs) (station_of (left_by s cs))
