-- The moments of a run: where a burst is on the line, and what the ms before and behind it leave of a frame. In one run
-- there is at most one burst, since all that wait are taken in it.
use Rattle.std.specs.Prelude.{ℕ, zero, suc, ◌+◌, ◌-◌, cond, List, [], ◌∷◌, eqb, leb, ltb, length, take, drop}
use Rattle.frames.specs.declared.Frame.{Frame}
use Rattle.frames.specs.Frames.{hunting}
use Rattle.edges.specs.declared.Edges.{Edges}
use Rattle.edges.specs.declared.Report.{Report}
use Rattle.edges.specs.Edges.{no_edges}
use Rattle.edges.specs.code.Measuring.{report_over}
use Rattle.alphabet.specs.declared.Mode.{Mode}
use Rattle.burst.specs.Rules.{free_ms, after_ms, is_silent}
use Rattle.burst.specs.Line.{in_burst}
use Rattle.half_duplex.specs.declared.Core.{Core}
use Rattle.half_duplex.specs.Core.{mode_in, silence_after}
use Rattle.queue.specs.Queue.{queue, waiting_of}
use Rattle.preview.specs.code.Count.{busy_ms}

-- The first ms in which the line is free, after some silence and with so many inhibited ms to come; the length if it
-- stays busy.
unfoldable pub free_at : ℕ → ℕ → List ℕ → ℕ
free_at silence deaf [] = 0
free_at silence deaf (x ∷ xs) =
    cond (leb free_ms silence) 0 (suc (free_at (silence_after (is_silent (ltb 0 deaf) x) silence) (deaf - 1) xs))

-- The first ms of a burst: the first of all in one; if characters wait, the first with a free line; the length if there
-- is none.
unfoldable pub burst_at : Core → List ℕ → ℕ
burst_at c heard =
    cond (in_burst c.line) 0
    (cond (eqb c.waiting 0) (length heard) (free_at c.silence c.inhibited heard))

-- The ms of the burst from there on, and with them the inhibited ms after it.
abbrev pub burst_ms : Core → List ℕ → ℕ
burst_ms c chars = busy_ms (mode_in c) c.line c.sender free_ms (waiting_of (queue c.waiting chars))

abbrev pub deaf_ms : Core → List ℕ → ℕ
deaf_ms c chars = burst_ms c chars + after_ms

-- A frame and its edges behind so many inhibited ms: one drops both.
abbrev pub frame_behind : ℕ → Frame → Frame
frame_behind zero f = f
frame_behind (suc n) f = hunting

abbrev pub edges_behind : ℕ → Edges → Edges
edges_behind zero w = w
edges_behind (suc n) w = no_edges

-- A report with the edges of the ms from one place to another, which are heard; those right before them are inhibited.
abbrev pub heard_in : Mode → Frame → Edges → Report → List ℕ → ℕ → ℕ → Report
heard_in mode f w r heard from to =
    report_over mode (frame_behind from f) (edges_behind from w) r (take (to - from) (drop from heard))
