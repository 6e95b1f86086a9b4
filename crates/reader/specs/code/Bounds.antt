-- The bounds that the functions of this crate ask for.
use Rattle.std.specs.Prelude.{◌≤◌}
use Rattle.alphabet.specs.declared.Mode.{Mode}
use Rattle.frames.specs.code.Bounds.{FrameOf}
use Rattle.keys.specs.code.Bounds.{KeysIn}
use Rattle.reader.specs.declared.Reader.{Reader}

-- what question 1 asks of a reader
pub record ReaderIn (mode : Mode) (r : Reader) : Type 0 where
  pub frame-in : FrameOf mode r.frame
  pub keys_ranged : KeysIn r.keys
  pub shift_low : 1 ≤ r.shift
  pub shift_in : r.shift ≤ 2
  pub prefix_in : r.prefix ≤ 15
