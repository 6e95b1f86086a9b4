-- What a station has on the line, in numbers: part 0 no burst, 1 the preamble (document 01: lead), 2 a code; `at` of
-- the part's ms are sent.
use Rattle.std.specs.Prelude.{Option, Some, None}
use Rattle.alphabet.specs.declared.CharCode.{CharCode}
use Rattle.std.specs.Prelude.{ℕ, ◌+◌, Bool, true, false, cond, not, ◌&&◌, List, [], eqb, leb, ltb, length, get_or}
use Rattle.alphabet.specs.declared.Alphabet.{Alphabet}
use Rattle.alphabet.specs.declared.Mode.{Mode}
use Rattle.alphabet.specs.Modes.{alphabet_of}
use Rattle.alphabet.specs.Normal.{sends}
use Rattle.baudot.specs.declared.Sender.{Sender}
use Rattle.baudot.specs.Sending.{sender, shift_code}
use Rattle.signal.specs.Signal.{quiet, signal, preamble}
use Rattle.burst.specs.declared.OnLine.{OnLine}
use Rattle.burst.specs.declared.Loaded.{Loaded}
use Rattle.burst.specs.Rules.{opens_with_shift, opening_shift, shift_wanted, sender_after_own}

abbrev pub on_line : ℕ → ℕ → ℕ → OnLine
on_line part code at = record { at = at; part = part; code = record { 0 = code } }

-- The same, n ms further.
abbrev pub further : OnLine → ℕ → OnLine
further l n = on_line l.part l.code.0 (l.at + n)

abbrev pub idle : OnLine
idle = on_line 0 0 0

abbrev pub in_burst : OnLine → Bool
in_burst l = not (eqb l.part 0)

abbrev pub is_code : OnLine → Bool
is_code l = eqb l.part 2

-- The ms of the part.
unfoldable pub part_ms : Mode → OnLine → List ℕ
part_ms mode l = cond (is_code l) (signal mode l.code.0) (cond (in_burst l) (preamble mode) [])

-- In a burst with no ms of the part left.
unfoldable pub is_over : Mode → OnLine → Bool
is_over mode l = in_burst l && leb (length (part_ms mode l)) l.at

-- In no burst, one begins with its preamble where it is to begin.
unfoldable pub begun : Bool → OnLine → OnLine
begun begins l = cond (begins && not (in_burst l)) (on_line 1 0 0) l

-- What a ms starts with: what is on the line, the sender, and whether the front character is taken.
abbrev pub loaded : OnLine → Sender → Bool → Loaded
loaded l s takes = record { line = l; sender = s; takes = takes }

-- A shift code (document 01: case code) begins: it takes none, and the count starts again at it.
abbrev pub shift_begins : ℕ → Loaded
shift_begins w = loaded (on_line 2 (shift_code w) 0) (sender w 0) false

-- The front character is next: a shift code where one is wanted ahead of it, else its own code, and it is taken. (One
-- that sends nothing never waits; it would be taken.)
unfoldable pub code_begins : Alphabet → OnLine → Sender → Option CharCode → Loaded
code_begins a l s None = loaded l s true
code_begins a l s (Some o) =
    let w = shift_wanted a s o.shift in
    cond (eqb w 0)
    (loaded (on_line 2 o.code.0 0) (sender_after_own a s) true)
    (shift_begins w)

-- A shift code is to open the burst, behind its preamble.
abbrev pub is_opening : Alphabet → OnLine → Bool
is_opening a l = eqb l.part 1 && opens_with_shift a

-- In a burst with no ms of a part left, the next code begins in that ms: the one that opens the burst, whether or not
-- characters wait, or the next for those that wait.
unfoldable pub next_code : Mode → ℕ → ℕ → OnLine → Sender → Loaded
next_code mode waiting front l s =
    let a = alphabet_of mode in
    cond (is_over mode l)
    (cond (is_opening a l) (shift_begins (opening_shift s))
    (cond (ltb 0 waiting) (code_begins a l s (sends a front)) (loaded l s false)))
    (loaded l s false)

-- The level that is sent: quiet outside a burst.
unfoldable pub level_on : Mode → OnLine → ℕ
level_on mode l = get_or (part_ms mode l) l.at quiet

-- One ms of the part has gone.
unfoldable pub one_gone : Mode → OnLine → OnLine
one_gone mode l = cond (ltb l.at (length (part_ms mode l))) (further l 1) l

-- In a burst with no ms of a part left, and no shift code that is to open it: the front character is next, or the burst
-- ends.
abbrev pub front_is_next : Mode → OnLine → Bool
front_is_next mode l = is_over mode l && not (is_opening (alphabet_of mode) l)

-- Then the burst ends with that ms where it is to end. The part is a code: a burst begins only with characters waiting,
-- and its preamble takes none. In a station that no list of calls gives, a preamble of DTMF or EDT with none waiting
-- ends the burst too.
abbrev pub ended : Bool → Bool → OnLine → OnLine
ended next ends l = cond (next && ends) idle l

unfoldable pub closed : Mode → Bool → OnLine → OnLine
closed mode ends l = ended (front_is_next mode l) ends l
