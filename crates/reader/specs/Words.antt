-- Document 01, "House words", and document 02, #103: the output words.
use Rattle.std.specs.Prelude.{ℕ, ◌+◌, ◌*◌, List, [], ◌∷◌, ◌++◌}
use Rattle.alphabet.specs.declared.Mode.{Mode}
use Rattle.frames.specs.declared.Cause.{Cause}
use Rattle.frames.specs.declared.Cause.TheVariants.{Quiet, StopNotMark, OddParity, NoRow, LetterKey}
use Rattle.reader.specs.declared.Event.{Event}
use Rattle.reader.specs.declared.Event.TheVariants.{Character, Fault, Nothing}
use Rattle.reader.specs.declared.Reader.{Reader}
use Rattle.lists.specs.Steps.{state_after, outputs}
use Rattle.reader.specs.Reader.{hear}

-- Kind 0 in bits 31 to 28, a character in bits 6 to 0.
abbrev pub character_word : ℕ → ℕ
character_word c = c

-- The causes of a fault: quiet inside the frame, stop element not mark, odd parity, DTMF code without a row, DTMF key A
-- to D.
abbrev pub cause_number : Cause → ℕ
cause_number Quiet = 1
cause_number StopNotMark = 2
cause_number OddParity = 3
cause_number NoRow = 4
cause_number LetterKey = 5

-- Kind 1: a fault, its ms from bit 8 on, its cause in bits 3 to 0.
abbrev pub fault_word : Cause → ℕ → ℕ
fault_word cause ms = 0x1000_0000 + 0x100 * ms + cause_number cause

-- At most one word a ms.
abbrev pub word_of : Event → List ℕ
word_of (Character c) = character_word c.0 ∷ []
word_of (Fault cause ms) = fault_word cause ms ∷ []
word_of Nothing = []

-- The words of what some ms end in, in order.
unfoldable pub words_of : List Event → List ℕ
words_of [] = []
words_of (e ∷ es) = word_of e ++ words_of es

-- The reader after the ms heard, what each of them ends in, and the words.
abbrev pub reader_next : Mode → Reader → ℕ → Reader
reader_next mode r heard = (hear mode r heard).reader

abbrev pub reader_event : Mode → Reader → ℕ → Event
reader_event mode r heard = (hear mode r heard).event

abbrev pub reader_after : Mode → Reader → List ℕ → Reader
reader_after mode r xs = state_after (reader_next mode) r xs

abbrev pub events : Mode → Reader → List ℕ → List Event
events mode r xs = outputs (reader_next mode) (reader_event mode) r xs

abbrev pub words : Mode → Reader → List ℕ → List ℕ
words mode r xs = words_of (events mode r xs)
