-- What inhibited ms leave of a frame and of its edges, and the ms that are heard behind them.
use mathlib.Core.Path.{◌≡◌, refl}
use Prim.Native.Nat.{ℕ, zero, suc, ◌≤◌}
use native.Mathlib.Omega.{arith}
use Rattle.alphabet.specs.declared.Mode.{Mode}
use Rattle.frames.specs.declared.Frame.{Frame}
use Rattle.frames.specs.code.Bounds.{FrameOf}
use Rattle.frames.specs.Frames.{hunting}
use Rattle.edges.specs.declared.Edges.{Edges}
use Rattle.edges.specs.Edges.{no_edges}
use Rattle.edges.specs.code.Bounds.{EdgesOf}
use Rattle.reader.proofs.Range.{fresh_in}
use Rattle.station.proofs.Edged.{outside_of}
use Rattle.drift.specs.code.Moments.{frame_behind, edges_behind}

pub frame-some : (n : ℕ) (f : Frame) → 1 ≤ n → frame_behind n f ≡ hunting
frame-some zero f h = absurd (omega arith)
frame-some (suc n) f h = refl

pub edges_some : (n : ℕ) (w : Edges) → 1 ≤ n → edges_behind n w ≡ no_edges
edges_some zero w h = absurd (omega arith)
edges_some (suc n) w h = refl

-- of none there is nothing to drop
pub frame-hunts : (n : ℕ) → frame_behind n hunting ≡ hunting
frame-hunts zero = refl
frame-hunts (suc n) = refl

pub edges_none : (n : ℕ) → edges_behind n no_edges ≡ no_edges
edges_none zero = refl
edges_none (suc n) = refl

-- both are in range
pub frame-in : (mode : Mode) (n : ℕ) (f : Frame) → FrameOf mode f → FrameOf mode (frame_behind n f)
frame-in mode zero f h = h
frame-in mode (suc n) f h = (fresh_in mode).frame-in

pub edges-in : (mode : Mode) (n : ℕ) (f : Frame) (w : Edges) → EdgesOf mode f w
    → EdgesOf mode (frame_behind n f) (edges_behind n w)
edges-in mode zero f w h = h
edges-in mode (suc n) f w h = outside_of mode
