-- Edges over some ms that a reader of frames hears.
use Rattle.std.specs.Prelude.{ℕ, ◌+◌, List, [], ◌∷◌}
use Rattle.alphabet.specs.declared.Mode.{Mode}
use Rattle.frames.specs.declared.Frame.{Frame}
use Rattle.frames.specs.Samples.{samples_of}
use Rattle.frames.specs.Frames.{frame_next}
use Rattle.edges.specs.declared.Report.{Report}
use Rattle.edges.specs.declared.Edges.{Edges}
use Rattle.edges.specs.Edges.{joined, with_ms, edges_ms, counted_ms}

-- The edges that wait after them, and a report with those that count.
unfoldable pub edges_over : Mode → Frame → Edges → List ℕ → Edges
edges_over mode f w [] = w
edges_over mode f w (x ∷ xs) = edges_over mode (frame_next (samples_of mode) f x) (edges_ms mode f w x) xs

unfoldable pub report_over : Mode → Frame → Edges → Report → List ℕ → Report
report_over mode f w r [] = r
report_over mode f w r (x ∷ xs) =
    report_over mode (frame_next (samples_of mode) f x) (edges_ms mode f w x) (joined r (counted_ms mode f w x)) xs

-- The ms of one frame, from ms m on.
unfoldable pub with_all : ℕ → ℕ → Edges → List ℕ → Edges
with_all e m w [] = w
with_all e m w (x ∷ xs) = with_all e (m + 1) (with_ms e m w x) xs
