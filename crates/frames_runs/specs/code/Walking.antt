-- Walks over what is heard: a reader of frames before a ms, and before a later one.
use Rattle.std.specs.Prelude.{ℕ, ◌-◌, ◌<◌, ◌≡◌, List, length, get_or, MatchOption}
use Rattle.std.specs.ControlFlow.{MatchControlFlow}
use Rattle.std.specs.declared.ops.ControlFlow.{ControlFlow}
use Rattle.alphabet.specs.declared.Mode.{Mode}
use Rattle.frames.specs.declared.Frame.{Frame}
use Rattle.frames.specs.declared.samples.Effect.{Effect}
use Rattle.frames.specs.declared.samples.Effect.TheVariants.{On, Hunts, Breaks, Ends}
use Rattle.frames.specs.Samples.{samples_of}
use Rattle.frames.specs.Frames.{frame_step}
use Rattle.frames.specs.code.Samples.{done_by}
use Rattle.frames_runs.specs.code.Passing.{frame_at, FramePasses, FrameWalks}
use Rattle.frames_runs.specs.declared.Walk.{Walk}
use Rattle.frames_runs.specs.declared.Stop.{Stop}

abbrev pub frame_of : Walk → Frame
frame_of w = frame_at w.place w.digits

abbrev pub WalkPasses : Mode → List ℕ → Walk → Walk → Type 0
WalkPasses mode heard w q = FramePasses mode heard (frame_of w) w.to (frame_of q) q.to

-- A walk that comes further.
pub record Gains (mode : Mode) (heard : List ℕ) (w q : Walk) : Type 0 where
  pub passes : WalkPasses mode heard w q
  pub further : w.to < q.to

-- It goes on only where it has come further.
abbrev pub Passed : Mode → List ℕ → Walk → ControlFlow Walk Walk → Type 0
Passed mode heard w r = MatchControlFlow r (λ q. Gains mode heard w q) (λ q. WalkPasses mode heard w q)

-- A sample that does not let its frame go on.
abbrev pub Stopped : Effect → Type 0
Stopped (On digits) = ⊥
Stopped Hunts = Unit {0}
Stopped (Breaks cause) = Unit {0}
Stopped Ends = Unit {0}

-- A walk is before such a sample.
pub record StopsBy (mode : Mode) (heard : List ℕ) (w : Walk) (e : Effect) : Type 0 where
  pub inside : w.to < length heard
  pub stopped : Stopped e
  pub step : frame_step (samples_of mode) (frame_of w) (get_or heard w.to 0) ≡ done_by e (w.place - 1) w.digits

-- From sample to sample: nothing was found on the way.
pub record Stops (mode : Mode) (heard : List ℕ) (w : Walk) (s : Stop) : Type 0 where
  pub passes : WalkPasses mode heard w s.walk
  pub walks : FrameWalks mode heard (frame_of w) w.to (frame_of s.walk) s.walk.to
  pub stops : MatchOption s.effect (s.walk.to ≡ length heard) (λ e. StopsBy mode heard s.walk e)
