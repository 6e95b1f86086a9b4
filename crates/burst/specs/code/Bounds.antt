-- The bounds that the functions of this crate ask for.
use Rattle.std.specs.Prelude.{Option, Some, None}
use Rattle.alphabet.specs.declared.CharCode.{CharCode}
use Rattle.std.specs.Prelude.{ℕ, ◌≤◌, ◌<◌, ◌≡◌, true, length}
use Rattle.alphabet.specs.declared.Alphabet.{Alphabet}
use Rattle.alphabet.specs.declared.Mode.{Mode}
use Rattle.alphabet.specs.Modes.{alphabet_of, codes}
use Rattle.burst.specs.declared.OnLine.{OnLine}
use Rattle.burst.specs.Line.{part_ms}
use Rattle.burst.specs.Range.{is_code_of, code_in}

-- a part; a code of the alphabet, or 0 where none is on the line, so that it is below all codes; a place in the part or
-- behind its last ms
pub record LineIn (mode : Mode) (l : OnLine) : Type 0 where
  pub part_in : l.part ≤ 2
  pub code_is : code_in (alphabet_of mode) l ≡ true
  pub code-in : l.code.0 < codes (alphabet_of mode)
  pub at_in : l.at ≤ length (part_ms mode l)

-- a code of the alphabet, of a shift that is letters, figures or both
pub record CodeIn (a : Alphabet) (own n : ℕ) : Type 0 where
  pub own_low : 1 ≤ own
  pub own_in : own ≤ 3
  pub code_is : is_code_of a n ≡ true

abbrev pub SendsIn : Alphabet → Option CharCode → Type 0
SendsIn a None = Unit {0}
SendsIn a (Some o) = CodeIn a o.shift o.code.0
