-- The bounds that the functions of this crate ask for.
use Rattle.std.specs.Prelude.{ℕ, ◌+◌, ◌≤◌, ◌<◌, Bool, true, false}
use Rattle.alphabet.specs.declared.Mode.{Mode}
use Rattle.alphabet.specs.declared.Mode.TheVariants.{Baudot45, Baudot50, Dtmf, Edt}
use Rattle.alphabet.specs.Modes.{frame_codes}
use Rattle.frames.specs.declared.Frame.{Frame}
use Rattle.frames.specs.declared.Found.{Found}
use Rattle.frames.specs.declared.Found.TheVariants.{Nothing, Fault, Code}
use Rattle.frames.specs.Samples.{samples_of}
use Rattle.frames.specs.Range.{last_ms}

-- what question 1 asks of a frame, for samples up to the ms `last` and digits below n, and for those of a mode
pub record FrameIn (last n : ℕ) (f : Frame) : Type 0 where
  pub place_in : f.place ≤ last + 1
  pub digits_in : f.digits < n

abbrev pub FrameOf : Mode → Frame → Type 0
FrameOf mode f = FrameIn (last_ms (samples_of mode)) (frame_codes mode) f

-- a mode that has frames
abbrev pub Framed : Mode → Type 0
Framed Baudot45 = Unit {0}
Framed Baudot50 = Unit {0}
Framed Dtmf = ⊥
Framed Edt = Unit {0}

-- in a frame, with a place to come
pub record InFrame (f : Frame) : Type 0 where
  pub at_least : 1 ≤ f.place
  pub below : f.place < 255

-- a code that was found is below n
abbrev pub FoundIn : ℕ → Found → Type 0
FoundIn n Nothing = Unit {0}
FoundIn n (Fault cause m) = Unit {0}
FoundIn n (Code k) = k.0 < n

-- something was found
abbrev pub is_found : Found → Bool
is_found Nothing = false
is_found (Fault cause m) = true
is_found (Code k) = true
