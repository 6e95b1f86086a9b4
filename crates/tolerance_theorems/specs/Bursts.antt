-- A Baudot burst on a quiet line, and what it is to be read as.
use Rattle.std.specs.Prelude.{ℕ, suc, List, [], ◌∷◌, ◌++◌, ◌≡◌, replicate}
use Rattle.alphabet.specs.declared.Mode.{Mode}
use Rattle.baudot.specs.Reading.{text_of, shift_after}
use Rattle.signal.specs.Signal.{quiet, mark, baudot_signal, signals, preamble}
use Rattle.frames.specs.declared.Frame.{Frame}
use Rattle.frames.specs.declared.Found.{Found}
use Rattle.frames.specs.declared.Found.TheVariants.{Nothing, Fault, Code}
use Rattle.frames.specs.Samples.{Placed, samples_of}
use Rattle.frames.specs.Frames.{hunting, frame_after, founds}
use Rattle.reader.specs.declared.Reader.{Reader}
use Rattle.reader.specs.Reader.{with_shift}
use Rattle.reader.specs.Words.{reader_after, words}

-- Some ms on a quiet line: so many quiet ms before them, and at least one behind them. So a burst's first edge is that
-- from quiet to mark, and its last that from mark to quiet.
abbrev pub on_quiet : ℕ → List ℕ → ℕ → List ℕ
on_quiet before xs after = replicate before quiet ++ (xs ++ replicate (suc after) quiet)

-- A burst of a mode: its preamble (document 01: lead), and any codes.
abbrev pub burst : Mode → List ℕ → List ℕ
burst mode ks = preamble mode ++ signals mode ks

-- Codes at any element e, without gap, and a burst of them with so many ms of preamble.
unfoldable pub codes_at : ℕ → List ℕ → List ℕ
codes_at e [] = []
codes_at e (k ∷ ks) = baudot_signal e k ++ codes_at e ks

abbrev pub burst_at : ℕ → ℕ → List ℕ → List ℕ
burst_at e preamble_ms ks = replicate preamble_ms mark ++ codes_at e ks

-- The codes and faults among what some ms end in, in order.
unfoldable pub found : List Found → List Found
found [] = []
found (Nothing ∷ os) = found os
found (Fault cause m ∷ os) = Fault cause m ∷ found os
found (Code k ∷ os) = Code k ∷ found os

-- Codes, each found once, and no fault.
unfoldable pub codes_found : List ℕ → List Found
codes_found [] = []
codes_found (k ∷ ks) = Code (record { 0 = k }) ∷ codes_found ks

-- From the reader f of frames, the ms ys are read as the codes ks, and leave the reader g.
pub record ReadAs (samples : List Placed) (f : Frame) (ys ks : List ℕ) (g : Frame) : Type 0 where
  pub after : frame_after samples f ys ≡ g
  pub codes-are : found (founds samples f ys) ≡ codes_found ks

-- The reader of a mode hears these codes, with no fault, and goes on hunting; its words and its shift are theirs.
pub record HeardAs (mode : Mode) (r : Reader) (ys ks : List ℕ) : Type 0 where
  pub codes : ReadAs (samples_of mode) r.frame ys ks hunting
  pub words_are : words mode r ys ≡ text_of r.shift ks
  pub reader_then : reader_after mode r ys ≡ with_shift r (shift_after r.shift ks)
