-- The samples of a frame, by their numbers: the next one from a ms on.
use mathlib.Core.Path.{◌≡◌, refl}
use Prim.Native.Nat.{ℕ, ◌+◌, ◌-◌, ◌≤◌, ◌<◌}
use native.Mathlib.Omega.{arith}
use lib.ListN.{length}
use Rattle.alphabet.specs.declared.Mode.{Mode}
use Rattle.alphabet.specs.declared.Mode.TheVariants.{Baudot45, Baudot50, Dtmf, Edt}
use Rattle.frames.specs.Samples.{None, sample_at, samples_of}
use Rattle.frames.specs.Range.{last_ms}
use Rattle.frames.specs.code.Bounds.{FrameOf}
use Rattle.frames.specs.code.Samples.{number_at, sample_ms}
use Rattle.frames.proofs.Sampling.{length-samples_of, off-samples}
use Rattle.frames.proofs.Range.{number_in}
use Rattle.frames_runs.specs.code.Passing.{frame_at}

-- The next sample is one of the mode's, at no ms before, and no sample is before it.
pub record Next (mode : Mode) (m j s : ℕ) : Type 0 where
  pub number : j < length (samples_of mode)
  pub few : j ≤ 10
  pub low : m ≤ s
  pub high : s ≤ 254
  pub none : (k : ℕ) → k < s - m → sample_at (samples_of mode) (m + k) ≡ None

low-at : (mode : Mode) (m : ℕ) → m ≤ sample_ms mode (number_at mode m)
unfolding number_at sample_ms
low-at Baudot45 m = omega arith
low-at Baudot50 m = omega arith
low-at Dtmf m = omega arith
low-at Edt m = omega arith

-- no sample before it falls on a later ms
first-from : (mode : Mode) (m j : ℕ) → m ≤ sample_ms mode j → number_at mode m ≤ j
unfolding number_at sample_ms
first-from Baudot45 m j h = omega arith
first-from Baudot50 m j h = omega arith
first-from Dtmf m j h = h
first-from Edt m j h = omega arith

in_order : (mode : Mode) (i j : ℕ) → i ≤ j → sample_ms mode i ≤ sample_ms mode j
unfolding sample_ms
in_order Baudot45 i j h = omega arith
in_order Baudot50 i j h = omega arith
in_order Dtmf i j h = h
in_order Edt i j h = omega arith

between : (mode : Mode) (m k j : ℕ) → k < sample_ms mode (number_at mode m) - m → m + k ≡ sample_ms mode j → ⊥
between mode m k j h e =
    let o = in_order mode (number_at mode m) j (first-from mode m j (omega arith)) in
    omega arith

pub samples-few : (mode : Mode) → length (samples_of mode) ≤ 11
samples-few Baudot45 = let n = length-samples_of Baudot45 in omega arith
samples-few Baudot50 = let n = length-samples_of Baudot50 in omega arith
samples-few Dtmf = let n = length-samples_of Dtmf in omega arith
samples-few Edt = let n = length-samples_of Edt in omega arith

pub ms-few : (mode : Mode) (j : ℕ) → j ≤ 11 → sample_ms mode j ≤ 254
unfolding sample_ms
ms-few Baudot45 j h = omega arith
ms-few Baudot50 j h = omega arith
ms-few Dtmf j h = omega arith
ms-few Edt j h = omega arith

next-at : (mode : Mode) (m : ℕ) → 1 ≤ m → m ≤ last_ms (samples_of mode)
    → Next mode m (number_at mode m) (sample_ms mode (number_at mode m))
next-at mode m o h =
    let n = number_in mode m o h in
    let few = samples-few mode in
    record {
      number = n;
      few = omega arith;
      low = low-at mode m;
      high = ms-few mode (number_at mode m) (omega arith);
      none =
          λ (k : ℕ) (g : k < sample_ms mode (number_at mode m) - m).
          off-samples mode (m + k) (λ j. between mode m k j g);
    }

-- at each place in a frame
pub next_of : (mode : Mode) (place digits : ℕ) → FrameOf mode (frame_at place digits) → 2 ≤ place → (j s : ℕ)
    → j ≡ number_at mode (place - 1) → s ≡ sample_ms mode j → Next mode (place - 1) j s
next_of mode place digits h l j s ej es =
    let p = h.place_in in rw (es, ej) (next-at mode (place - 1) (omega arith) (omega arith))

-- behind a sample, the next one comes
pub number-next : (mode : Mode) (j : ℕ) → number_at mode (sample_ms mode j + 1) ≡ j + 1
unfolding number_at sample_ms
number-next Baudot45 j = omega arith
number-next Baudot50 j = omega arith
number-next Dtmf j = refl
number-next Edt j = omega arith

pub ms-grows : (mode : Mode) (j : ℕ) → sample_ms mode j < sample_ms mode (j + 1)
unfolding sample_ms
ms-grows Baudot45 j = omega arith
ms-grows Baudot50 j = omega arith
ms-grows Dtmf j = omega arith
ms-grows Edt j = omega arith
