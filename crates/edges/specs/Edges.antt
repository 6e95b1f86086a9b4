-- Document 02, #111: the edges of a Baudot frame, early or late, and reports of them.
use Rattle.std.specs.Prelude.{ℕ, ◌+◌, ◌*◌, ◌-◌, ◌%◌, Bool, true, false, cond, ◌&&◌, ◌||◌, eqb, leb, ltb, ℤ, pos, ◌+ℤ◌, ◌-ℤ◌}
use Rattle.std.specs.Int.Signed.{le_z}
use Rattle.alphabet.specs.declared.Mode.{Mode}
use Rattle.alphabet.specs.Modes.{element_of}
use Rattle.signal.specs.Signal.{quiet, mark, space}
use Rattle.frames.specs.declared.Found.{Found}
use Rattle.frames.specs.declared.Found.TheVariants.{Nothing, Fault, Code}
use Rattle.frames.specs.declared.Frame.{Frame}
use Rattle.frames.specs.declared.FrameRead.{FrameRead}
use Rattle.frames.specs.Samples.{samples_of}
use Rattle.frames.specs.Frames.{frame_step}
use Rattle.edges.specs.declared.Report.{Report}
use Rattle.edges.specs.declared.Edges.{Edges}

-- A report: how many edges, the sum of their displacements, the smallest and the largest.
abbrev pub report : ℕ → ℤ → ℤ → ℤ → Report
report edges sum smallest largest =
    record { edges = edges; sum = sum; smallest = smallest; largest = largest }

-- Of no edge, all four are 0; of one edge.
abbrev pub no_edge : Report
no_edge = report 0 (pos 0) (pos 0) (pos 0)

abbrev pub one_edge : ℤ → Report
one_edge d = report 1 d d d

abbrev pub smaller : ℤ → ℤ → ℤ
smaller a b = cond (le_z a b) a b

abbrev pub larger : ℤ → ℤ → ℤ
larger a b = cond (le_z a b) b a

-- The report of all edges of two reports.
unfoldable pub joined : Report → Report → Report
joined a b =
    cond (eqb a.edges 0) b
    (cond (eqb b.edges 0) a
    (report (a.edges + b.edges) (a.sum +ℤ b.sum) (smaller a.smallest b.smallest)
    (larger a.largest b.largest)))

-- An edge: a change between mark and space from one ms to the next. A change through quiet is none.
unfoldable pub is_edge : ℕ → ℕ → Bool
is_edge before heard = (eqb before mark && eqb heard space) || (eqb before space && eqb heard mark)

-- The displacement of an edge at ms m of a frame: m less the nearest multiple of the element e, the earlier one on a
-- tie. It is negative if the edge is early.
unfoldable pub displacement : ℕ → ℕ → ℤ
displacement e m =
    let late = m % e in
    cond (leb (2 * late) e) (pos late) (pos late -ℤ pos e)

-- The edges of the frame so far, and the level of its latest ms; outside a frame no edge and quiet.
abbrev pub edges : Report → ℕ → Edges
edges seen level = record { seen = seen; level = level }

abbrev pub no_edges : Edges
no_edges = edges no_edge quiet

-- With ms m of the frame.
unfoldable pub with_ms : ℕ → ℕ → Edges → ℕ → Edges
with_ms e m w heard =
    edges (cond (is_edge w.level heard) (joined w.seen (one_edge (displacement e m))) w.seen) heard

-- The modes whose edges are measured: those with elements of whole ms, which are those of Baudot.
abbrev pub is_measured : Mode → Bool
is_measured mode = ltb 0 (element_of mode)

abbrev pub is_code : Found → Bool
is_code Nothing = false
is_code (Fault cause m) = false
is_code (Code k) = true

-- The edges of a frame wait while it goes on; those of a frame that has broken off are dropped.
abbrev pub going_on : Mode → FrameRead → Bool
going_on mode q = is_measured mode && leb 2 q.frame.place

unfoldable pub edges_ms : Mode → Frame → Edges → ℕ → Edges
edges_ms mode f w heard =
    cond (going_on mode (frame_step (samples_of mode) f heard)) (with_ms (element_of mode) (f.place - 1) w heard)
    no_edges

-- They count in the ms of the stop sample, which finds the code.
abbrev pub ending : Mode → FrameRead → Bool
ending mode q = is_measured mode && is_code q.found

unfoldable pub counted_ms : Mode → Frame → Edges → ℕ → Report
counted_ms mode f w heard =
    cond (ending mode (frame_step (samples_of mode) f heard)) (with_ms (element_of mode) (f.place - 1) w heard).seen
    no_edge
