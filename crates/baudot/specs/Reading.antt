-- Document 01, "Baudot alphabet (Annex A)": reading a list of codes. A shift is 1 letters, 2 figures.
use Rattle.std.specs.Prelude.{ℕ, Bool, List, [], ◌∷◌, ◌++◌}
use Rattle.lists.specs.Lists.{all_at_most}
use Rattle.alphabet.specs.declared.Reads.{Reads}
use Rattle.alphabet.specs.declared.Reads.TheVariants.{Character, Shift, NoRow}
use Rattle.alphabet.specs.Baudot.{read_baudot}
use Rattle.alphabet.specs.Normal.{chars_of}

-- The shift after a reading.
abbrev pub shift_by : ℕ → Reads → ℕ
shift_by shift (Character c) = shift
shift_by shift (Shift s) = s
shift_by shift NoRow = shift

-- The characters of a list of codes, and the shift after it.
unfoldable pub text_of : ℕ → List ℕ → List ℕ
text_of shift [] = []
text_of shift (k ∷ ks) = chars_of (read_baudot shift k) ++ text_of (shift_by shift (read_baudot shift k)) ks

unfoldable pub shift_after : ℕ → List ℕ → ℕ
shift_after shift [] = shift
shift_after shift (k ∷ ks) = shift_after (shift_by shift (read_baudot shift k)) ks

-- Every number is a five-bit code.
abbrev pub all_codes : List ℕ → Bool
all_codes ks = all_at_most 31 ks
