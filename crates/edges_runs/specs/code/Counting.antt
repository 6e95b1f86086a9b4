-- The edges that count, from frame to frame.
use Rattle.std.specs.Prelude.{ℕ, ◌-◌, ◌≤◌, ◌<◌, ◌≡◌, Bool, true, false, cond, List, Option, ltb, length, get_or, MatchOption}
use Rattle.alphabet.specs.declared.Mode.{Mode}
use Rattle.frames.specs.declared.Frame.{Frame}
use Rattle.frames.specs.declared.samples.Effect.{Effect}
use Rattle.frames.specs.declared.samples.Effect.TheVariants.{On, Hunts, Breaks, Ends}
use Rattle.frames.specs.Samples.{samples_of}
use Rattle.frames.specs.Frames.{frame_next, frame_found}
use Rattle.frames.specs.code.Bounds.{FrameOf}
use Rattle.frames_runs.specs.declared.Walk.{Walk}
use Rattle.frames_runs.specs.code.Passing.{frame_at, FrameWalks}
use Rattle.frames_runs.specs.code.Walking.{frame_of}
use Rattle.edges.specs.declared.Report.{Report}
use Rattle.edges.specs.declared.Edges.{Edges}
use Rattle.edges.specs.Edges.{no_edge, joined, with_ms, is_code}
use Rattle.edges.specs.code.Bounds.{ReportOf}
use Rattle.edges_runs.specs.declared.Ended.{Ended}

-- Outside a frame a reader has no digits.
abbrev pub Clean : Frame → Type 0
Clean f = f.place ≤ 1 → f.digits ≡ 0

-- The digits of a reader, as they are to be.
abbrev pub clean_digits : Frame → ℕ
clean_digits f = cond (ltb f.place 2) 0 f.digits

-- From the place i of a list on, a reader comes to be another, and finds nothing on the way.
pub record Reached (mode : Mode) (heard : List ℕ) (f : Frame) (i : ℕ) (g : Frame) (to : ℕ) : Type 0 where
  pub low : i ≤ to
  pub high : to ≤ length heard
  pub ranged : FrameOf mode g
  pub walks : FrameWalks mode heard f i g to

-- What a sample that ends a frame leads to: the place behind it, and whether it finds a code.
abbrev pub place_behind : Effect → ℕ
place_behind (On digits) = 0
place_behind Hunts = 0
place_behind (Breaks cause) = 1
place_behind Ends = 0

abbrev pub finds_code : Effect → Bool
finds_code (On digits) = false
finds_code Hunts = false
finds_code (Breaks cause) = false
finds_code Ends = true

abbrev pub ended_by : ℕ → ℕ → Effect → Ended
ended_by place to e = record { place = place; to = to; next = place_behind e; code = finds_code e }

-- The frame of a reader ends so in a ms.
pub record EndsSo (mode : Mode) (f : Frame) (x : ℕ) (p : Ended) : Type 0 where
  pub place : f.place ≡ p.place
  pub next : frame_next (samples_of mode) f x ≡ frame_at p.next 0
  pub code : is_code (frame_found (samples_of mode) f x) ≡ p.code

-- A walk comes to the ms that ends the next frame, or to the end of the list.
pub record EndedAt (mode : Mode) (heard : List ℕ) (w : Walk) (p : Ended) : Type 0 where
  pub frame : Frame
  pub reached : Reached mode heard (frame_of w) w.to frame p.to
  pub inside : p.to < length heard
  pub ends : EndsSo mode frame (get_or heard p.to 0) p

pub record EndsNone (mode : Mode) (heard : List ℕ) (w : Walk) : Type 0 where
  pub frame : Frame
  pub reached : Reached mode heard (frame_of w) w.to frame (length heard)

abbrev pub NextEnd : Mode → List ℕ → Walk → Option Ended → Type 0
NextEnd mode heard w p = MatchOption p (EndsNone mode heard w) (λ q. EndedAt mode heard w q)

-- A report with the edges of a frame at some place, with the ms x, if a code was found in it.
abbrev pub with_code : ℕ → ℕ → Edges → ℕ → Bool → Report → Report
with_code e at v x code r = joined r (cond code (with_ms e (at - 1) v x).seen no_edge)

-- The bounds of a ms of a list in which edges may count.
pub record CountOf (e : ℕ) (w : Edges) (heard : List ℕ) (to : ℕ) (r : Report) : Type 0 where
  pub some : 1 ≤ e
  pub few : e ≤ 22
  pub inside : to < length heard
  pub short : length heard ≤ 4_096
  pub waiting : ReportOf 900_000 w.seen
  pub report : ReportOf 1_000_000 r
