-- Document 01, "Line signal": where a frame of Baudot or EDT is sampled (there: the looks), and what for.
use Rattle.std.specs.Prelude.{ℕ, suc, ◌+◌, ◌*◌, ◌/◌, Bool, true, false, cond, List, [], ◌∷◌, eqb}
use Rattle.alphabet.specs.declared.Mode.{Mode}
use Rattle.alphabet.specs.declared.Mode.TheVariants.{Baudot45, Baudot50, Dtmf, Edt}
use Rattle.alphabet.specs.Modes.{element_of}

-- What falls on a ms of a frame: no sample, or a sample of a kind. A digit's has the weight of the frame's last digit.
pub data Sample : Type 0 where
  None : Sample
  Start : Sample
  Digit : (top : ℕ) → Sample
  Parity : Sample
  Stop : Sample
  Last : Sample

-- A sample behind the start's (document 01: a later look).
abbrev pub is_later : Sample → Bool
is_later None = false
is_later Start = false
is_later (Digit top) = true
is_later Parity = true
is_later Stop = true
is_later Last = true

-- A sample: the ms of the frame on which it falls, and its kind.
pub record Placed : Type 0 where
  pub ms : ℕ
  pub kind : Sample

-- Samples of these kinds, number j at ms `place j`.
unfoldable pub placed : (ℕ → ℕ) → ℕ → List Sample → List Placed
placed place j [] = []
placed place j (k ∷ ks) = record { ms = place j; kind = k } ∷ placed place (suc j) ks

-- Baudot: start, five digits, stop. The last digit weighs 16.
unfoldable pub baudot_kinds : List Sample
baudot_kinds = Start ∷ Digit 16 ∷ Digit 16 ∷ Digit 16 ∷ Digit 16 ∷ Digit 16 ∷ Last ∷ []

-- Samples fall at ms ej + e/2, j = 0 to 6.
abbrev pub baudot_place : ℕ → ℕ → ℕ
baudot_place e j = e * j + e / 2

abbrev pub baudot_samples : ℕ → List Placed
baudot_samples e = placed (baudot_place e) 0 baudot_kinds

-- EDT: start, seven digits, parity, two stops. The last digit weighs 64.
unfoldable pub edt_kinds : List Sample
edt_kinds =
    Start ∷ Digit 64 ∷ Digit 64 ∷ Digit 64 ∷ Digit 64 ∷ Digit 64 ∷ Digit 64 ∷ Digit 64 ∷ Parity ∷ Stop ∷ Last ∷ []

-- Samples fall at ms floor((100j + 50)/11), j = 0 to 10.
abbrev pub edt_place : ℕ → ℕ
edt_place j = (100 * j + 50) / 11

abbrev pub edt_samples : List Placed
edt_samples = placed edt_place 0 edt_kinds

-- The samples of a mode's frames; DTMF has no frames.
unfoldable pub samples_of : Mode → List Placed
samples_of Baudot45 = baudot_samples (element_of Baudot45)
samples_of Baudot50 = baudot_samples (element_of Baudot50)
samples_of Dtmf = []
samples_of Edt = edt_samples

-- The sample that falls on a ms.
unfoldable pub sample_at : List Placed → ℕ → Sample
sample_at [] m = None
sample_at (s ∷ ss) m =
    let later = sample_at ss m in
    cond (eqb m s.ms) s.kind later
