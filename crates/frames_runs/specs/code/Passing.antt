-- Ms of frames that end in nothing.
use Rattle.std.specs.Prelude.{ℕ, ◌-◌, ◌≤◌, ◌<◌, ◌≡◌, cond, List, [], ◌∷◌, eqb, length, get_or, take, drop}
use Rattle.lists.specs.code.Passing.{Passes}
use Rattle.alphabet.specs.declared.Mode.{Mode}
use Rattle.signal.specs.Signal.{space}
use Rattle.frames.specs.declared.Frame.{Frame}
use Rattle.frames.specs.declared.Found.TheVariants.{Nothing}
use Rattle.frames.specs.Samples.{Placed, samples_of}
use Rattle.frames.specs.Frames.{frame_next, frame_found}
use Rattle.frames.specs.code.Bounds.{FrameOf, is_found}

abbrev pub frame_at : ℕ → ℕ → Frame
frame_at place digits = record { place = place; digits = digits }

-- From a place to another, a frame is then another.
abbrev pub FramePasses : Mode → List ℕ → Frame → ℕ → Frame → ℕ → Type 0
FramePasses mode heard f i g to =
    Passes (frame_next (samples_of mode)) (frame_found (samples_of mode)) is_found (FrameOf mode) heard f i g to

-- Each ms leads to the next frame and finds nothing.
unfoldable pub Walks : List Placed → Frame → List ℕ → Frame → Type 0
Walks ss f [] g = f ≡ g
Walks ss f (x ∷ xs) g = (frame_found ss f x ≡ Nothing) × Walks ss (frame_next ss f x) xs g

-- So from a place of the list to another.
abbrev pub FrameWalks : Mode → List ℕ → Frame → ℕ → Frame → ℕ → Type 0
FrameWalks mode heard f i g to = Walks (samples_of mode) f (take (to - i) (drop i heard)) g

-- The place of a frame after a ms that is hunted or waited in.
unfoldable pub place_after : ℕ → ℕ → ℕ
place_after place heard = cond (eqb heard space) (cond (eqb place 0) 2 1) 0

-- Up to a place of the list, each ms leaves the reader hunting or waiting.
pub record Stays (heard : List ℕ) (place i to : ℕ) : Type 0 where
  pub low : i ≤ to
  pub high : to ≤ length heard
  pub stays : (k : ℕ) → i ≤ k → k < to → place_after place (get_or heard k 0) ≡ place
