-- The samples of a frame, by their numbers, and what one does.
use Rattle.std.specs.Prelude.{ℕ, ◌+◌, ◌*◌, ◌-◌, ◌/◌, ◌≤◌, ◌<◌, ◌≡◌}
use Rattle.alphabet.specs.declared.Mode.{Mode}
use Rattle.alphabet.specs.declared.Mode.TheVariants.{Baudot45, Baudot50, Dtmf, Edt}
use Rattle.alphabet.specs.Modes.{element_of}
use Rattle.frames.specs.declared.Found.TheVariants.{Nothing, Code}
use Rattle.frames.specs.declared.FrameRead.{FrameRead}
use Rattle.frames.specs.declared.samples.Effect.{Effect}
use Rattle.frames.specs.declared.samples.Effect.TheVariants.{On, Hunts, Breaks, Ends}
use Rattle.frames.specs.Samples.{Sample, baudot_place, edt_place, sample_at, samples_of}
use Rattle.frames.specs.Frames.{hunting, gives, goes_on, faulty, sampled}

-- The number of the first sample from a ms on: Baudot, in elements of e ms; a mode.
abbrev pub baudot_number : ℕ → ℕ → ℕ
baudot_number e m = (m + (e - 1 - e / 2)) / e

unfoldable pub number_at : Mode → ℕ → ℕ
number_at Baudot45 m = baudot_number (element_of Baudot45) m
number_at Baudot50 m = baudot_number (element_of Baudot50) m
number_at Dtmf m = m
number_at Edt m = (11 * m + 49) / 100

-- The ms of a sample.
unfoldable pub sample_ms : Mode → ℕ → ℕ
sample_ms Baudot45 j = baudot_place (element_of Baudot45) j
sample_ms Baudot50 j = baudot_place (element_of Baudot50) j
sample_ms Dtmf j = j
sample_ms Edt j = edt_place j

-- The kind of a sample.
abbrev pub kind_of : Mode → ℕ → Sample
kind_of mode j = sample_at (samples_of mode) (sample_ms mode j)

-- What is done at ms m of a frame with some digits.
abbrev pub done_by : Effect → ℕ → ℕ → FrameRead
done_by (On d) m digits = goes_on m d
done_by Hunts m digits = gives hunting Nothing
done_by (Breaks cause) m digits = faulty cause m
done_by Ends m digits = gives hunting (Code (record { 0 = digits }))

-- What a sample of a kind does, on any ms.
abbrev pub Does : Sample → ℕ → ℕ → Effect → Type 0
Does kind digits heard e = (m : ℕ) → sampled kind m digits heard ≡ done_by e m digits

-- A number below n, but not that of the start.
pub record Later (n j : ℕ) : Type 0 where
  pub low : 1 ≤ j
  pub high : j < n
