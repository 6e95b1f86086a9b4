-- What each character sends and each code reads as, by alphabet; document 01, "EDT alphabet" and "Normal form".
use Rattle.std.specs.Prelude.{Option, Some, None}
use Rattle.alphabet.specs.declared.CharCode.{CharCode}
use Rattle.alphabet.specs.Codes.{char_code}
use Rattle.std.specs.Prelude.{ℕ, Bool, true, false, cond, List, [], ◌∷◌, ◌++◌, leb}
use Rattle.lists.specs.Lists.{all_at_most}
use Rattle.alphabet.specs.declared.Alphabet.{Alphabet}
use Rattle.alphabet.specs.declared.Alphabet.TheVariants.{Baudot, Dtmf, Edt}
use Rattle.alphabet.specs.declared.Reads.{Reads}
use Rattle.alphabet.specs.declared.Reads.TheVariants.{Character, Shift, NoRow}
use Rattle.alphabet.specs.Baudot.{any_shift, send_baudot, read_baudot}
use Rattle.alphabet.specs.Dtmf.{send_dtmf, read_dtmf}

-- Every character from 00 to 7F is sent, as its own seven bits.
abbrev pub send_edt : ℕ → Option CharCode
send_edt c = cond (leb c 0x7f) (char_code any_shift (record { 0 = c })) None

abbrev pub read_edt : ℕ → Reads
read_edt code = Character (record { 0 = code })

-- What a character sends.
unfoldable pub sends : Alphabet → ℕ → Option CharCode
sends Baudot c = send_baudot c
sends Dtmf c = send_dtmf c
sends Edt c = send_edt c

-- What is sent is a code, and not nothing.
abbrev pub is_code : Option CharCode → Bool
is_code None = false
is_code (Some o) = true

-- The own codes of characters, without a shift code.
abbrev pub own_code : Option CharCode → List ℕ
own_code None = []
own_code (Some o) = o.code.0 ∷ []

unfoldable pub own_codes : Alphabet → List ℕ → List ℕ
own_codes a [] = []
own_codes a (c ∷ cs) = own_code (sends a c) ++ own_codes a cs

-- What a code reads as, in a shift (which only Baudot looks at).
unfoldable pub reads : Alphabet → ℕ → ℕ → Reads
reads Baudot shift code = read_baudot shift code
reads Dtmf shift code = read_dtmf code
reads Edt shift code = read_edt code

-- The characters that a reading gives: one or none.
abbrev pub chars_of : Reads → List ℕ
chars_of (Character c) = c.0 ∷ []
chars_of (Shift s) = []
chars_of NoRow = []

-- What the reader gives for what was sent, in the code's own shift.
abbrev pub read_back : Alphabet → Option CharCode → Reads
read_back a None = NoRow
read_back a (Some o) = reads a o.shift o.code.0

-- The normal form of a character: what the reader gives for its code in its own shift, and nothing if it has none.
abbrev pub normal : Alphabet → ℕ → List ℕ
normal a c = chars_of (read_back a (sends a c))

-- The normal form of a list: that of its characters in order.
unfoldable pub normal_form : Alphabet → List ℕ → List ℕ
normal_form a [] = []
normal_form a (c ∷ cs) = normal a c ++ normal_form a cs

-- A list of characters: each is from 00 to 7F.
abbrev pub all_chars : List ℕ → Bool
all_chars cs = all_at_most 0x7f cs
