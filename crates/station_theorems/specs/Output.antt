-- Document 01, "House words" and "Line signal", and document 02, #103: every output word is well formed, and every sent
-- ms is a value of the mode.
use Rattle.std.specs.Prelude.{ℕ, ◌/◌, ◌%◌, ◌^◌, ◌<◌, Bool, true, false, ◌&&◌, ◌||◌, List, [], ◌∷◌, ◌++◌, ◌≡◌, eqb, leb, length, take}
use Rattle.lists.specs.Lists.{all_at_most}
use Rattle.alphabet.specs.declared.Mode.{Mode}
use Rattle.alphabet.specs.declared.Mode.TheVariants.{Baudot45, Baudot50, Dtmf, Edt}
use Rattle.alphabet.specs.Modes.{highest_level}
use Rattle.frames.specs.declared.Cause.{Cause}
use Rattle.frames.specs.declared.Cause.TheVariants.{Quiet, StopNotMark, OddParity, NoRow, LetterKey}
use Rattle.frames.specs.Samples.{Sample, None, Start, Digit, Parity, Stop, Last, Placed, samples_of}
use Rattle.reader.specs.Words.{cause_number, fault_word}
use Rattle.edges.specs.declared.Report.{Report}
use Rattle.station.specs.declared.Station.{Station}
use Rattle.station.specs.declared.Measured.{Measured}
use Rattle.station.specs.Station.{mode_of_station, sent_by, words_by}
use Rattle.station.specs.Measured.{station_of}
use Rattle.station.specs.Range.{in_range}
use Rattle.station.specs.Entries.{run_answer, ran_of, sent_after, words_after}

-- A character has bits 6 to 0.
abbrev pub highest_char : ℕ
highest_char = 0x7f

-- What a sample may find wrong: every one behind the start quiet; the parity odd; a stop neither mark nor quiet.
abbrev pub causes_of : Sample → List Cause
causes_of None = []
causes_of Start = []
causes_of (Digit top) = Quiet ∷ []
causes_of Parity = Quiet ∷ OddParity ∷ []
causes_of Stop = Quiet ∷ StopNotMark ∷ []
causes_of Last = Quiet ∷ StopNotMark ∷ []

-- The fault words of some causes at a ms; those of some samples, each at its own ms.
unfoldable pub faults_at : ℕ → List Cause → List ℕ
faults_at ms [] = []
faults_at ms (c ∷ cs) = fault_word c ms ∷ faults_at ms cs

unfoldable pub faults_of : List Placed → List ℕ
faults_of [] = []
faults_of (s ∷ ss) = faults_at s.ms (causes_of s.kind) ++ faults_of ss

-- The fault words of a mode: those of its samples; DTMF has two other causes and no ms.
unfoldable pub fault_words : Mode → List ℕ
fault_words Baudot45 = faults_of (samples_of Baudot45)
fault_words Baudot50 = faults_of (samples_of Baudot50)
fault_words Dtmf = faults_at 0 (NoRow ∷ LetterKey ∷ [])
fault_words Edt = faults_of (samples_of Edt)

-- Is a word one of these?
unfoldable pub is_one_of : ℕ → List ℕ → Bool
is_one_of w [] = false
is_one_of w (x ∷ xs) = eqb w x || is_one_of w xs

-- A well-formed word of a mode is a character, its other bits zero, so of kind 0; or one of the mode's fault words.
abbrev pub is_word : Mode → ℕ → Bool
is_word mode w = leb w highest_char || is_one_of w (fault_words mode)

unfoldable pub all_words : Mode → List ℕ → Bool
all_words mode [] = true
all_words mode (w ∷ ws) = is_word mode w && all_words mode ws

-- For every station in range and every list of heard ms, each output word is well formed.
abbrev pub WordsWellFormed : Type 0
WordsWellFormed =
    (s : Station) (heard : List ℕ) → in_range s ≡ true → all_words (mode_of_station s) (words_by s heard) ≡ true

-- A run of any station with any report on any slices: the words that it counts, in front in the word slice, are well
-- formed.
abbrev pub RunWordsWellFormed : Type 0
RunWordsWellFormed =
    (x : Measured) (r : Report) (heard : List ℕ) (sent_room : ℕ) (slice : List ℕ)
    → all_words (mode_of_station (station_of x))
    (take (ran_of x r heard sent_room (length slice)).words (words_after x r heard sent_room slice)) ≡ true

-- The fault words written out, of which a mode gives no other: kind 1, the ms, four bits that are zero, the cause.
abbrev pub FaultWords : Type 0
FaultWords =
    (fault_words Baudot45 ≡ 0x1000_2101 ∷ 0x1000_3701 ∷ 0x1000_4d01 ∷ 0x1000_6301 ∷ 0x1000_7901 ∷ 0x1000_8f01 ∷
    0x1000_8f02 ∷ [])
    × (fault_words Baudot50 ≡ 0x1000_1e01 ∷ 0x1000_3201 ∷ 0x1000_4601 ∷ 0x1000_5a01 ∷ 0x1000_6e01 ∷ 0x1000_8201 ∷
    0x1000_8202 ∷ [])
    × (fault_words Dtmf ≡ 0x1000_0004 ∷ 0x1000_0005 ∷ [])
    × (fault_words Edt ≡ 0x1000_0d01 ∷ 0x1000_1601 ∷ 0x1000_1f01 ∷ 0x1000_2801 ∷ 0x1000_3201 ∷ 0x1000_3b01 ∷
    0x1000_4401 ∷ 0x1000_4d01 ∷ 0x1000_4d03 ∷ 0x1000_5601 ∷ 0x1000_5602 ∷ 0x1000_5f01 ∷ 0x1000_5f02 ∷ [])

-- Bits of a fault word, for every ms that bits 27 to 8 can hold: the kind is 1, the ms and the cause are told, and bits
-- 7 to 4 are zero.
pub record FaultBits (c : Cause) (ms : ℕ) : Type 0 where
  pub kind : fault_word c ms / 2 ^ 28 ≡ 1
  pub told_ms : fault_word c ms / 2 ^ 8 % 2 ^ 20 ≡ ms
  pub zero : fault_word c ms / 2 ^ 4 % 2 ^ 4 ≡ 0
  pub cause : fault_word c ms % 2 ^ 4 ≡ cause_number c

abbrev pub FaultLayout : Type 0
FaultLayout = (c : Cause) (ms : ℕ) → ms < 2 ^ 20 → FaultBits c ms

-- The values of the station's mode go up to this: 0 quiet, 1 mark, 2 space; in DTMF 0 quiet or a key, 1 to 16.
abbrev pub highest_sent : Station → ℕ
highest_sent s = highest_level (mode_of_station s)

-- For every station and every list of heard ms, each sent ms is a value of the mode.
abbrev pub SentInMode : Type 0
SentInMode = (s : Station) (heard : List ℕ) → all_at_most (highest_sent s) (sent_by s heard) ≡ true

-- A run that succeeds: as many ms as were heard, in front in the sent slice, are values of the mode.
abbrev pub RunSentInMode : Type 0
RunSentInMode =
    (x : Measured) (r : Report) (heard : List ℕ) (word_room : ℕ) (slice : List ℕ)
    → run_answer x r heard (length slice) word_room ≡ 0
    → all_at_most (highest_sent (station_of x)) (take (length heard) (sent_after x r heard word_room slice)) ≡ true
