-- How many edges a report has after some ms, and that it stays in range.
use mathlib.Core.List.{List, [], ◌∷◌}
use Prim.Native.Nat.{ℕ, ◌+◌, ◌≤◌}
use native.Mathlib.Omega.{arith}
use lib.ListN.{length}
use Rattle.alphabet.specs.declared.Mode.{Mode}
use Rattle.frames.specs.declared.Frame.{Frame}
use Rattle.frames.specs.Samples.{samples_of}
use Rattle.frames.specs.Frames.{frame_next}
use Rattle.edges.specs.declared.Report.{Report}
use Rattle.edges.specs.declared.Edges.{Edges}
use Rattle.edges.specs.Edges.{joined, edges_ms, counted_ms}
use Rattle.edges.specs.code.Measuring.{report_over}
use Rattle.edges.proofs.Range.{joined-edges}
use Rattle.edges.proofs.Bound.{Fine, fine-joined, ms-more, ms-fine}

-- each ms adds at most one
pub report-most : (mode : Mode) (f : Frame) (w : Edges) (r : Report) (xs : List ℕ)
    → (report_over mode f w r xs).edges ≤ r.edges + w.seen.edges + length xs
unfolding report_over
report-most mode f w r [] = omega arith
report-most mode f w r (x ∷ xs) =
    let j = joined-edges r (counted_ms mode f w x) in
    let l = ms-more mode f w x in
    let v = edges_ms mode f w x in
    let n = report-most mode (frame_next (samples_of mode) f x) v (joined r (counted_ms mode f w x)) xs in
    omega arith

pub report-fine : (mode : Mode) (f : Frame) (w : Edges) (r : Report) (xs : List ℕ) → Fine w.seen → Fine r
    → Fine (report_over mode f w r xs)
unfolding report_over
report-fine mode f w r [] h k = k
report-fine mode f w r (x ∷ xs) h k =
    let s = ms-fine mode f w x h in
    report-fine mode (frame_next (samples_of mode) f x) (edges_ms mode f w x) (joined r (counted_ms mode f w x)) xs s.1
    (fine-joined k s.0)
