-- Document 02, #112: a ceiling on sending time, for those who size a battery by the longest burst.
use Rattle.std.specs.Prelude.{ℕ, zero, suc, ◌+◌, ◌*◌, ◌-◌, ◌≤◌, max, Bool, true, false, cond, not, ◌&&◌, ◌≡◌, List, [], ◌∷◌, eqb, length, replicate}
use Rattle.alphabet.specs.declared.Alphabet.{Alphabet}
use Rattle.alphabet.specs.declared.Alphabet.TheVariants.{Baudot, Dtmf as dtmf, Edt as edt}
use Rattle.alphabet.specs.declared.Mode.{Mode}
use Rattle.alphabet.specs.declared.Mode.TheVariants.{Baudot45, Baudot50, Dtmf, Edt}
use Rattle.alphabet.specs.Baudot.{letters, figures}
use Rattle.alphabet.specs.Modes.{mode_number, alphabet_of, preamble_of, longest}
use Rattle.baudot.specs.declared.Sender.{Sender}
use Rattle.burst.specs.declared.OnLine.{OnLine}
use Rattle.burst.specs.Rules.{free_ms, opens_with_shift}
use Rattle.burst.specs.Line.{in_burst, is_code, part_ms}
use Rattle.station.specs.declared.Station.{Station}
use Rattle.station.specs.declared.Measured.{Measured}
use Rattle.station.specs.Station.{mode_of_station, alphabet_of_station, offered_to}
use Rattle.station.specs.Measured.{station_of, fresh_measured}
use Rattle.station.specs.Range.{in_range, measured_in}
use Rattle.preview.specs.Preview.{IdleIn, Previews}

-- The most codes that n characters take: in Baudot a shift code and its own for each; DTMF and EDT have no shifts.
abbrev pub most_codes : Alphabet → ℕ → ℕ
most_codes Baudot n = 2 * n
most_codes dtmf n = n
most_codes edt n = n

-- The code that opens a burst, where the alphabet has one.
abbrev pub opening_codes : Alphabet → ℕ
opening_codes a = cond (opens_with_shift a) 1 0

-- THE CEILING of n characters: the preamble (there: lead), and so many codes of the mode's longest.
abbrev pub ceiling : Mode → ℕ → ℕ
ceiling mode n =
    let a = alphabet_of mode in
    preamble_of mode + longest mode * (most_codes a n + opening_codes a)

-- In the numbers of document 02.
pub record InNumbers : Type 0 where
  pub baudot45 : (n : ℕ) → ceiling Baudot45 n ≡ 150 + 165 * (2 * n + 1)
  pub baudot50 : (n : ℕ) → ceiling Baudot50 n ≡ 150 + 150 * (2 * n + 1)
  pub dtmf : (n : ℕ) → ceiling Dtmf n ≡ 480 * n
  pub edt : (n : ℕ) → ceiling Edt n ≡ 300 + 100 * n

-- The count of #106: the ms in which a station in range (with its 256 places) becomes idle on a quiet line. Of a
-- preview that succeeds, the station is the one that was offered the text.
pub record Counted (s : Station) (ms : ℕ) : Type 0 where
  pub full : length s.chars ≡ 256
  pub ranged : in_range s ≡ true
  pub idle-in : IdleIn s ms

abbrev pub PreviewCounts : Type 0
PreviewCounts =
    (x : Measured) (text : List ℕ) (ms : ℕ) → length x.chars ≡ 256 → Previews x text 0 ms
    → Counted (offered_to (station_of x) text) ms

-- A silent station with a free line: in no burst, and with 300 ms of silence.
pub record Silent (s : Station) : Type 0 where
  pub no-burst : in_burst s.core.line ≡ false
  pub free : s.core.silence ≡ free_ms

-- From a silent station with a free line the count is at most the ceiling of those that wait ..
abbrev pub Ceiling : Type 0
Ceiling = (s : Station) (ms : ℕ) → Counted s ms → Silent s → ms ≤ ceiling (mode_of_station s) s.core.waiting

-- .. the offer's included ..
abbrev pub PreviewCeiling : Type 0
PreviewCeiling =
    (x : Measured) (text : List ℕ) (ms : ℕ) → length x.chars ≡ 256 → Previews x text 0 ms → Silent (station_of x)
    → ms ≤ ceiling (mode_of_station (station_of x)) (offered_to (station_of x) text).core.waiting

-- .. and with none waiting it is 0, also where the line is not free.
abbrev pub NoneWaiting : Type 0
NoneWaiting =
    (s : Station) (ms : ℕ) → Counted s ms → in_burst s.core.line ≡ false → s.core.waiting ≡ 0 → ms ≡ 0

-- Where the line is not free yet, the ms until it is come on top: 300 at most.
abbrev pub ceiling_not_free : Station → ℕ → ℕ
ceiling_not_free s n = free_ms - s.core.silence + ceiling (mode_of_station s) n

abbrev pub CeilingNotFree : Type 0
CeilingNotFree =
    (s : Station) (ms : ℕ) → Counted s ms → in_burst s.core.line ≡ false
    → ms ≤ ceiling_not_free s s.core.waiting

-- In a burst: the ms that are left of the part on the line, ..
abbrev pub part_left : Station → ℕ
part_left s = length (part_ms (mode_of_station s) s.core.line) - s.core.line.at

-- .. and the codes to come. The one that opens the burst is among them while the preamble is on the line. (Behind it,
-- in a station that no list of calls gives, the sender may be fresh; it then sends 11111.)
abbrev pub has_opened : OnLine → Sender → Bool
has_opened l s = is_code l && not (eqb s.shift 0)

abbrev pub ceiling_in_burst : Station → ℕ → ℕ
ceiling_in_burst s n =
    let a = alphabet_of_station s in
    let opening = cond (has_opened s.core.line s.core.sender) 0 (opening_codes a) in
    part_left s + longest (mode_of_station s) * (most_codes a n + opening)

-- It takes one ms at least. (In a station that no list of calls gives, its last part may be over with none waiting.)
abbrev pub CeilingInBurst : Type 0
CeilingInBurst =
    (s : Station) (ms : ℕ) → Counted s ms → in_burst s.core.line ≡ true
    → ms ≤ max 1 (ceiling_in_burst s s.core.waiting)

-- So no preview tells more than 123,360 ms, of whatever station: in DTMF, 480 for a code of which no ms is sent, and
-- for each of 256 that wait.
abbrev pub NoneLonger : Type 0
NoneLonger =
    (x : Measured) (text : List ℕ) (answer ms : ℕ) → length x.chars ≡ 256 → Previews x text answer ms
    → ms ≤ 123_360

-- Each ceiling is reached. In Baudot by 1 and A in turn, the first of the shift that is not in force; ..
abbrev pub other_shift : ℕ → ℕ
other_shift shift = cond (eqb shift figures) letters figures

abbrev pub char_of : ℕ → ℕ
char_of shift = cond (eqb shift figures) 0x31 0x41

unfoldable pub in_turn : ℕ → ℕ → List ℕ
in_turn shift zero = []
in_turn shift (suc n) = char_of (other_shift shift) ∷ in_turn (other_shift shift) n

-- .. else by any number of A, which in DTMF is ##*1, a code of four keys.
abbrev pub longest_text : Alphabet → ℕ → ℕ → List ℕ
longest_text Baudot shift n = in_turn shift n
longest_text dtmf shift n = replicate n 0x41
longest_text edt shift n = replicate n 0x41

abbrev pub text_for : Station → ℕ → List ℕ
text_for s n = longest_text (alphabet_of_station s) s.core.sender.shift n

-- A preview of this text of n characters tells so many ms, and after its offer n wait.
pub record Reaches (x : Measured) (n ms : ℕ) : Type 0 where
  pub waiting : (offered_to (station_of x) (text_for (station_of x) n)).core.waiting ≡ n
  pub previews : Previews x (text_for (station_of x) n) 0 ms

-- For each n from 1 to 256: a fresh station of each mode reaches the ceiling; ..
abbrev pub Reached : Type 0
Reached = (mode : Mode) (n : ℕ) → 1 ≤ n → n ≤ 256 → Reaches (fresh_measured (mode_number mode)) n (ceiling mode n)

-- .. so does every station in range with nothing waiting, the ms until its line is free on top; ..
abbrev pub ReachedNotFree : Type 0
ReachedNotFree =
    (x : Measured) → length x.chars ≡ 256 → measured_in x ≡ true → in_burst x.core.line ≡ false
    → x.core.waiting ≡ 0 → (n : ℕ) → 1 ≤ n → n ≤ 256 → Reaches x n (ceiling_not_free (station_of x) n)

-- .. and every such station in a burst.
abbrev pub ReachedInBurst : Type 0
ReachedInBurst =
    (x : Measured) → length x.chars ≡ 256 → measured_in x ≡ true → in_burst x.core.line ≡ true
    → x.core.waiting ≡ 0 → (n : ℕ) → 1 ≤ n → n ≤ 256 → Reaches x n (ceiling_in_burst (station_of x) n)

-- In EDT every text reaches it.
abbrev pub EdtAlways : Type 0
EdtAlways =
    (s : Station) (ms : ℕ) → Counted s ms → Silent s → mode_of_station s ≡ Edt → 1 ≤ s.core.waiting
    → ms ≡ ceiling Edt s.core.waiting
