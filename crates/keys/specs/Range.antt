-- Document 01, question 1, as far as it asks about keys: their numbers are within the values that document 01 gives
-- them.
use Rattle.std.specs.Prelude.{Bool, ◌&&◌, leb, ltb}
use Rattle.alphabet.specs.declared.Mode.TheVariants.{Dtmf}
use Rattle.alphabet.specs.Modes.{highest_level}
use Rattle.keys.specs.declared.Keys.{Keys}
use Rattle.keys.specs.Keys.{key_ms, quiet_ms}

-- Keys 0 to 16; fewer ms of a key than make it count; at most the quiet ms that are needed.
abbrev pub keys_in : Keys → Bool
keys_in k = leb k.key (highest_level Dtmf) && ltb k.ms key_ms && leb k.needed quiet_ms
