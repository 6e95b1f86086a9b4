-- Document 01, "Baudot alphabet (Annex A)": Tables A.1 and A.2 with its rulings. A shift (there: case) is 1 for letters
-- (LTRS) and 2 for figures (FIGS).
use Rattle.std.specs.Prelude.{Option, None}
use Rattle.alphabet.specs.declared.CharCode.{CharCode}
use Rattle.alphabet.specs.Codes.{char_code}
use Rattle.std.specs.Prelude.{ℕ, Bool, cond, ◌&&◌, ◌||◌, List, [], ◌∷◌, eqb, leb}
use Prim.Native.String.{String}
use lib.Text.{eqt}
use Rattle.alphabet.specs.declared.Reads.{Reads}
use Rattle.alphabet.specs.declared.Reads.TheVariants.{Character, Shift}
use Rattle.alphabet.specs.Print.{Row, left_rows, right_rows, rows, bits}
use Rattle.alphabet.specs.TableA1.{a1}
use Rattle.alphabet.specs.TableA2.{a2}

abbrev pub letters : ℕ
letters = 1

abbrev pub figures : ℕ
figures = 2

-- Of both shifts; the codes of an alphabet without shifts are held so too.
abbrev pub any_shift : ℕ
any_shift = 3

-- The last column of the first row whose first column is n in binary; "" without one.
unfoldable pub printed_at : ℕ → List Row → String
printed_at n [] = ""
printed_at n (r ∷ rs) =
    let later = printed_at n rs in
    cond (eqb (bits r.from) n) r.to later

-- 11111 selects letters, 11011 figures.
abbrev pub letters_code : ℕ
letters_code = 0b11111

abbrev pub figures_code : ℕ
figures_code = 0b11011

-- Reading follows Table A.1's T.50 column; the codes that select a shift give no character.
unfoldable pub read_baudot : ℕ → ℕ → Reads
read_baudot shift code =
    cond (eqb code letters_code) (Shift letters)
    (cond (eqb code figures_code) (Shift figures)
    (Character (record { 0 = bits (printed_at code (cond (eqb shift figures) (right_rows a1) (left_rows a1))) })))

-- The codes that mean BACKSPACE, LF, SPACE and CR in both shifts.
abbrev pub in_both_shifts : ℕ → Bool
in_both_shifts code = eqb code 0b00000 || eqb code 0b00010 || eqb code 0b00100 || eqb code 0b01000

-- A letter of either height belongs to letters, and so does @.
abbrev pub belongs_to_letters : ℕ → Bool
belongs_to_letters c = leb 0x41 c && leb c 0x5a || leb 0x61 c && leb c 0x7a || eqb c 0x40

-- The shift that the code of a character belongs to: both for the four codes above, else letters or figures.
abbrev pub own_shift : ℕ → ℕ → ℕ
own_shift c code = cond (in_both_shifts code) any_shift (cond (belongs_to_letters c) letters figures)

-- What Table A.2 prints for a character; 60 is drawn as an apostrophe and sent as the apostrophe (27).
abbrev pub printed_for : ℕ → String
printed_for c = printed_at (cond (eqb c 0x60) 0x27 c) (rows a2)

-- Nothing is sent for what is marked NULL, nor for a number that has no row.
abbrev pub is_null : String → Bool
is_null s = eqt s "NULL" || eqt s "NULL (Note)" || eqt s ""

-- Sending follows Table A.2.
unfoldable pub send_baudot : ℕ → Option CharCode
send_baudot c =
    let code = bits (printed_for c) in
    cond (is_null (printed_for c)) None (char_code (own_shift c code) (record { 0 = code }))
