-- Document 01, question 1, as far as it asks about what is on the line: a part; a code of the alphabet; a place in the
-- part or behind its last ms.
use Rattle.std.specs.Prelude.{ℕ, Bool, not, ◌&&◌, ◌||◌, eqb, leb, ltb, length}
use Rattle.alphabet.specs.declared.Alphabet.{Alphabet}
use Rattle.alphabet.specs.declared.Alphabet.TheVariants.{Baudot, Dtmf, Edt}
use Rattle.alphabet.specs.declared.Mode.{Mode}
use Rattle.alphabet.specs.Dtmf.{is_dtmf_code}
use Rattle.alphabet.specs.Modes.{alphabet_of, codes}
use Rattle.burst.specs.declared.OnLine.{OnLine}
use Rattle.burst.specs.Line.{is_code, part_ms}

-- A code of the alphabet: five bits; zero to three marks and one digit; seven bits.
unfoldable pub is_code_of : Alphabet → ℕ → Bool
is_code_of Baudot n = ltb n (codes Baudot)
is_code_of Dtmf n = is_dtmf_code n
is_code_of Edt n = ltb n (codes Edt)

-- Where no code is on the line, the number may be 0.
abbrev pub code_in : Alphabet → OnLine → Bool
code_in a l = (not (is_code l) && eqb l.code.0 0) || is_code_of a l.code.0

abbrev pub line_in : Mode → OnLine → Bool
line_in mode l = leb l.part 2 && code_in (alphabet_of mode) l && leb l.at (length (part_ms mode l))
