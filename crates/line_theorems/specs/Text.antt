-- A text on the line, and the readers that it finds.
use Rattle.std.specs.Prelude.{ℕ, ◌≡◌, ◌⊎◌, List, ◌++◌}
use Rattle.alphabet.specs.declared.Mode.{Mode}
use Rattle.alphabet.specs.declared.Mode.TheVariants.{Baudot45, Baudot50, Dtmf, Edt}
use Rattle.alphabet.specs.Modes.{alphabet_of}
use Rattle.baudot.specs.declared.Sender.{Sender}
use Rattle.baudot.specs.Sending.{Running}
use Rattle.baudot.specs.Text.{text_codes}
use Rattle.reader.specs.declared.Reader.{Reader}
use Rattle.signal.specs.Signal.{signals, preamble}
use Rattle.frames.specs.Frames.{hunting}
use Rattle.keys.specs.Keys.{ready}

-- The preamble, and the codes of a text.
abbrev pub text_signal : Mode → Sender → List ℕ → List ℕ
text_signal mode s cs = preamble mode ++ signals mode (text_codes (alphabet_of mode) s cs)

-- A reader between codes: it hunts, needs no quiet and has no prefix.
pub record Between (r : Reader) : Type 0 where
  pub frame_is : r.frame ≡ hunting
  pub keys-are : r.keys ≡ ready
  pub prefix_is : r.prefix ≡ 0

-- In Baudot the reader is in the shift of a running sender; with a fresh sender any shift will do.
abbrev pub InShift : Mode → Sender → Reader → Type 0
InShift Baudot45 s r = (s.shift ≡ 0) ⊎ (Running s × (s.shift ≡ r.shift))
InShift Baudot50 s r = (s.shift ≡ 0) ⊎ (Running s × (s.shift ≡ r.shift))
InShift Dtmf s r = Unit {0}
InShift Edt s r = Unit {0}
