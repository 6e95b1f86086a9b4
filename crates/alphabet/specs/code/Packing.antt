-- How the tables of this crate hold their entries. Above the crate a table is only named, to be lent to a lookup.
use Rattle.std.specs.Prelude.{Option, Some, None}
use Rattle.alphabet.specs.declared.CharCode.{CharCode}
use Rattle.alphabet.specs.Codes.{char_code}
use Rattle.std.specs.Prelude.{ℕ, ◌+◌, ◌*◌, ◌-◌, ◌/◌, ◌%◌, cond, List, [], ◌∷◌, ◌++◌, eqb, ltb, get_or}
use Rattle.lists.specs.Tables.{tabulate}
use Rattle.alphabet.specs.declared.Alphabet.{Alphabet}
use Rattle.alphabet.specs.declared.Alphabet.TheVariants.{Baudot, Dtmf, Edt}
use Rattle.alphabet.specs.declared.Reads.{Reads}
use Rattle.alphabet.specs.declared.Reads.TheVariants.{Character, Shift, NoRow}
use Rattle.alphabet.specs.Baudot.{any_shift, read_baudot}
use Rattle.alphabet.specs.Dtmf.{read_dtmf, prefixes}
use Rattle.alphabet.specs.Print.{keys}
use Rattle.alphabet.specs.Normal.{sends}

-- the characters of the three alphabets are numbered through, 128 of each: where an alphabet's begin
abbrev pub base : Alphabet → ℕ
base Baudot = 0
base Dtmf = 128
base Edt = 256

-- the alphabet of a number, and what its character sends
abbrev pub alphabet_at : ℕ → Alphabet
alphabet_at n = cond (ltb n 128) Baudot (cond (ltb n 256) Dtmf Edt)

abbrev pub sends_at : ℕ → Option CharCode
sends_at n = sends (alphabet_at n) (n % 128)

-- an entry, a byte: 0 for a character that sends nothing. Only Baudot has shifts to hold; 0 is a code in EDT
abbrev pub packed : Alphabet → Option CharCode → ℕ
packed a None = 0
packed Baudot (Some o) = 32 * o.shift + o.code.0
packed Dtmf (Some o) = o.code.0
packed Edt (Some o) = 128 + o.code.0

-- what an entry other than 0 says
abbrev pub code_in : Alphabet → ℕ → Option CharCode
code_in Baudot e = char_code (e / 32) (record { 0 = e % 32 })
code_in Dtmf e = char_code any_shift (record { 0 = e })
code_in Edt e = char_code any_shift (record { 0 = e % 128 })

abbrev pub unpacked : Alphabet → ℕ → Option CharCode
unpacked a e = cond (eqb e 0) None (code_in a e)

-- the entry of a number
unfoldable pub entry_at : ℕ → ℕ
entry_at n = packed (alphabet_at n) (sends_at n)

-- the table of sending, as it is lent to lookups
unfoldable pub send_table : List ℕ
send_table = tabulate entry_at 384 0

-- the number whose entry is stored at a place: all in order but a to z of Baudot, which have none
abbrev pub number_at : ℕ → ℕ
number_at i = cond (ltb i 0x61) i (i + 26)

-- the table of sending, as it is stored
unfoldable pub stored_table : List ℕ
stored_table = tabulate (λ i. entry_at (number_at i)) 358 0

-- the place of the entry that serves a number: a to z of Baudot are served by A to Z
abbrev pub place_of : ℕ → ℕ
place_of n = cond (ltb n 0x61) n (cond (ltb n 0x7b) (n - 0x20) (n - 26))

-- letters for any shift but figures
abbrev pub shift_of : ℕ → ℕ
shift_of shift = cond (eqb shift 2) 2 1

abbrev pub packed_read : Reads → ℕ
packed_read (Character c) = c.0
packed_read (Shift s) = 255
packed_read NoRow = 255

abbrev pub char_in : Reads → ℕ
char_in (Character c) = c.0
char_in (Shift s) = 0
char_in NoRow = 0

unfoldable pub baudot_at : ℕ → ℕ
baudot_at i = char_in (read_baudot (1 + i / 32) (i % 32))

-- the whole table of reading Baudot
unfoldable pub read_table : List ℕ
read_table = tabulate baudot_at 64 0

unfoldable pub dtmf_at : ℕ → ℕ
dtmf_at i = packed_read (read_dtmf i)

-- the keys of a prefix, four places to each, with 255 for the digit
unfoldable pub key_at : ℕ → ℕ
key_at i = get_or (keys (get_or prefixes (i / 4) "") ++ 255 ∷ []) (i % 4) 0
