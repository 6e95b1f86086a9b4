-- What a character sends: nothing, or its code, with the shift that it is of.
use Rattle.std.specs.Prelude.{ℕ, Option, Some}
use Rattle.alphabet.specs.declared.LineCode.{LineCode}
use Rattle.alphabet.specs.declared.CharCode.{CharCode}

abbrev pub char_code : ℕ → LineCode → Option CharCode
char_code shift code = Some (record { shift = shift; code = code })
