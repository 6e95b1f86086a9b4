-- Document 01, "Desk examples": what the listing program prints.
use Rattle.std.specs.Prelude.{ℕ, ◌+◌, ◌/◌, ◌%◌, cond, List, [], ◌∷◌, ◌++◌}
use Rattle.alphabet.specs.Normal.{all_chars}
use Rattle.baudot.specs.Sending.{fresh, codes_of}

-- The last binary digit of a number, as a character.
abbrev pub digit : ℕ → ℕ
digit n = 48 + n % 2

-- A code as five binary digits and LF.
abbrev pub line_of : ℕ → List ℕ
line_of k = digit (k / 16) ∷ digit (k / 8) ∷ digit (k / 4) ∷ digit (k / 2) ∷ digit k ∷ 10 ∷ []

unfoldable pub lines_of : List ℕ → List ℕ
lines_of [] = []
lines_of (k ∷ ks) = line_of k ++ lines_of ks

-- One code a line; nothing with a byte above 127 among them.
unfoldable pub listing : List ℕ → List ℕ
listing text = cond (all_chars text) (lines_of (codes_of fresh text)) []
