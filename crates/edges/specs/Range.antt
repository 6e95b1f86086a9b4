-- Document 02, #111: the range of a report, and of the edges that wait in a station.
use Rattle.std.specs.Prelude.{ℕ, ◌*◌, ◌-◌, Bool, cond, ◌&&◌, eqb, leb, ltb, nat_abs}
use Rattle.alphabet.specs.declared.Mode.{Mode}
use Rattle.alphabet.specs.Modes.{highest_level}
use Rattle.frames.specs.declared.Frame.{Frame}
use Rattle.signal.specs.Signal.{quiet}
use Rattle.edges.specs.declared.Report.{Report}
use Rattle.edges.specs.declared.Edges.{Edges}
use Rattle.edges.specs.Edges.{is_measured}

-- The most edges of a report, and the largest displacement either way.
abbrev pub most_edges : ℕ
most_edges = 65_536

abbrev pub most_displaced : ℕ
most_displaced = 11

-- No edge and all four 0.
abbrev pub is_empty : Report → Bool
is_empty r =
    eqb r.edges 0 && eqb (nat_abs r.sum) 0 && eqb (nat_abs r.smallest) 0 && eqb (nat_abs r.largest) 0

-- Smallest and largest from -11 to 11, the sum at most 11 times the edges either way.
abbrev pub is_displaced : Report → Bool
is_displaced r =
    leb (nat_abs r.smallest) most_displaced && leb (nat_abs r.largest) most_displaced
    && leb (nat_abs r.sum) (most_displaced * r.edges)

-- A report is empty, or has 1 to 65,536 edges.
unfoldable pub report_in : Report → Bool
report_in r = cond (eqb r.edges 0) (is_empty r) (leb r.edges most_edges && is_displaced r)

-- The edges that wait: in a measured frame within a report's range and fewer than the ms of the frame so far; else
-- none.
unfoldable pub edges_in : Mode → Frame → Edges → Bool
edges_in mode f w =
    cond (is_measured mode && leb 2 f.place)
    (report_in w.seen && ltb w.seen.edges (f.place - 1) && leb w.level (highest_level mode))
    (is_empty w.seen && eqb w.level quiet)
