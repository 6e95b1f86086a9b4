-- Document 01, "DTMF alphabet (Annex B)": Tables B.1 and B.2 with its rulings. The prefix (there: marks) is the * and #
-- ahead of a digit.
use Rattle.std.specs.Prelude.{Option, None}
use Rattle.alphabet.specs.declared.CharCode.{CharCode}
use Rattle.alphabet.specs.Codes.{char_code}
use Rattle.std.specs.Prelude.{ℕ, ◌+◌, ◌*◌, ◌-◌, ◌/◌, ◌%◌, Bool, true, false, cond, not, ◌&&◌, ◌||◌, List, [], ◌∷◌, ◌++◌, eqb, leb, ltb, length, get_or}
use Prim.Native.Char.{code}
use Prim.Native.String.{String, [] as empty, ◌∷◌ as ◌then◌}
use lib.Text.{eqt}
use Rattle.alphabet.specs.declared.Reads.{Reads}
use Rattle.alphabet.specs.declared.Reads.TheVariants.{Character, NoRow}
use Rattle.alphabet.specs.Print.{Row, rows, keys}
use Rattle.alphabet.specs.Baudot.{any_shift, printed_at}
use Rattle.alphabet.specs.TableB1.{b1}
use Rattle.alphabet.specs.TableB2.{b2}

-- Keys: 1 to 9 for the digits and 10 for 0; 11 for * and 12 for #.
abbrev pub is_digit : ℕ → Bool
is_digit k = leb 1 k && leb k 10

abbrev pub is_mark : ℕ → Bool
is_mark k = eqb k 11 || eqb k 12

-- The number of a prefix: 0 for none; a mark behind prefix p makes 2p + 1 (*) or 2p + 2 (#); 15 for more than three.
unfoldable pub with_mark : ℕ → ℕ → ℕ
with_mark p k = cond (ltb p 7) (2 * p + (k - 10)) 15

-- The number of the code of a prefix and a digit.
abbrev pub dtmf_code : ℕ → ℕ → ℕ
dtmf_code p k = 16 * p + k

-- Is a number one of these: of a prefix of at most three marks, and of a digit?
unfoldable pub is_dtmf_code : ℕ → Bool
is_dtmf_code n = ltb (n / 16) 15 && is_digit (n % 16)

unfoldable pub code_from : ℕ → List ℕ → ℕ
code_from p [] = 0
code_from p (k ∷ ks) = cond (is_mark k) (code_from (with_mark p k) ks) (dtmf_code p k)

-- The number of a code that is given by its keys.
abbrev pub code_of_keys : List ℕ → ℕ
code_of_keys ks = code_from 0 ks

-- The prefixes in the order of their numbers.
unfoldable pub prefixes : List String
prefixes =
    "" ∷
    "*" ∷
    "#" ∷
    "**" ∷
    "*#" ∷
    "#*" ∷
    "##" ∷
    "***" ∷
    "**#" ∷
    "*#*" ∷
    "*##" ∷
    "#**" ∷
    "#*#" ∷
    "##*" ∷
    "###" ∷
    []

-- The keys of a code that is given by its number.
unfoldable pub keys_of : ℕ → List ℕ
keys_of n = keys (get_or prefixes (n / 16) "") ++ n % 16 ∷ []

is_empty : List ℕ → Bool
is_empty [] = true
is_empty (k ∷ ks) = false

unfoldable pub marks_then_digit : List ℕ → Bool
unfolding is_empty
marks_then_digit [] = false
marks_then_digit (k ∷ ks) = cond (is_digit k) (is_empty ks) (is_mark k && marks_then_digit ks)

-- A code is zero to three of * and #, then one digit.
abbrev pub is_code : List ℕ → Bool
is_code ks = leb (length ks) 4 && marks_then_digit ks

unfoldable pub among : String → List String → Bool
among s [] = false
among s (t ∷ ts) = eqt s t || among s ts

-- A row of another shape, or whose code stood in an earlier row, is struck.
unfoldable pub not_struck : List String → List Row → List Row
not_struck earlier [] = []
not_struck earlier (r ∷ rs) =
    let later = not_struck (r.from ∷ earlier) rs in
    cond (is_code (keys r.from) && not (among r.from earlier)) (r ∷ later) later

-- The rows of Table B.1 that remain, left half before right.
unfoldable pub remaining : List Row
remaining = not_struck [] (rows b1)

-- A name in the character column, and the character that it names.
pub record Name : Type 0 where
  pub text : String
  pub char : ℕ

abbrev pub name : String → ℕ → Name
name s c = record { text = s; char = c }

-- The national letters stand at the places of T.50 that B.1 prints for them.
unfoldable pub names : List Name
names =
    name "SPACE" 0x20 ∷
    name "BACK SPACE" 0x08 ∷
    name "LF" 0x0a ∷
    name "NULL" 0x00 ∷
    name "æ (Note 1)" 0x7b ∷
    name "ø (Note 1)" 0x7c ∷
    name "å (Note 1)" 0x7d ∷
    name "Æ (Note 1)" 0x5b ∷
    name "Ø (Note 1)" 0x5c ∷
    name "Å (Note 1)" 0x5d ∷
    []

-- The code point of a text's first sign.
unfoldable pub first_sign : String → ℕ
first_sign empty = 0
first_sign (c then s) = code c

unfoldable pub named : String → List Name → ℕ
named s [] = first_sign s
named s (n ∷ ns) =
    let later = named s ns in
    cond (eqt s n.text) n.char later

-- The character of a cell of the character column: the one that is named or drawn there.
abbrev pub drawn : String → ℕ
drawn s = named s names

-- Reading: the character column of the row of a code; a code without a row gives none.
unfoldable pub read_in : ℕ → List Row → Reads
read_in n [] = NoRow
read_in n (r ∷ rs) =
    let later = read_in n rs in
    cond (eqb (code_of_keys (keys r.from)) n) (Character (record { 0 = drawn r.sign })) later

unfoldable pub read_dtmf : ℕ → Reads
read_dtmf n = read_in n remaining

-- The code of the first row of a character, or what is sent otherwise.
unfoldable pub send_in : ℕ → Option CharCode → List Row → Option CharCode
send_in c otherwise [] = otherwise
send_in c otherwise (r ∷ rs) =
    let later = send_in c otherwise rs in
    cond (eqb (drawn r.sign) c) (char_code any_shift (record { 0 = code_of_keys (keys r.from) })) later

unfoldable pub has_row : String → List Row → Bool
has_row s [] = false
has_row s (r ∷ rs) = eqt s r.from || has_row s rs

-- What Table B.2 prints for a character, if that code has a remaining row.
abbrev pub send_by_b2 : ℕ → List Row → Option CharCode
send_by_b2 c rs =
    let s = printed_at c (rows b2) in
    cond (has_row s rs) (char_code any_shift (record { 0 = code_of_keys (keys s) })) None

-- A character is sent by its first row among these, else by Table B.2; NULL is never sent.
unfoldable pub send_from : ℕ → List Row → Option CharCode
send_from c rs =
    let otherwise = send_by_b2 c rs in
    let found = send_in c otherwise rs in
    cond (eqb c 0x00) None found

unfoldable pub send_dtmf : ℕ → Option CharCode
send_dtmf c = send_from c remaining
