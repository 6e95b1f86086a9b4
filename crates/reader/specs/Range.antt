-- Document 01, question 1, as far as it asks about a reader: its numbers are within the values that document 01 gives
-- them.
use Rattle.std.specs.Prelude.{Bool, ◌&&◌, leb}
use Rattle.alphabet.specs.declared.Mode.{Mode}
use Rattle.frames.specs.Range.{frame_in}
use Rattle.keys.specs.Range.{keys_in}
use Rattle.reader.specs.declared.Reader.{Reader}

-- The shift of a reader is 1 or 2 (document 01: cases); its prefix is one of 0 to 3 marks, or more than three, which is
-- 15 (there: marks at most 4).
abbrev pub reader_in : Mode → Reader → Bool
reader_in mode r =
    frame_in mode r.frame && keys_in r.keys && leb 1 r.shift && leb r.shift 2 && leb r.prefix 15
