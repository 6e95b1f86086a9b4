-- Ms of silence: quiet or inhibited.
use Rattle.std.specs.Prelude.{Bool, cond, List, [], ◌∷◌, ◌≡◌}
use Rattle.alphabet.specs.declared.Mode.{Mode}
use Rattle.alphabet.specs.declared.Mode.TheVariants.{Baudot45, Baudot50, Dtmf, Edt}
use Rattle.reader.specs.declared.Reader.{Reader}
use Rattle.signal.specs.Signal.{quiet}
use Rattle.frames.specs.Frames.{hunting}
use Rattle.keys.specs.Keys.{ready}
use Rattle.reader.specs.Reader.{hear, inhibited}

-- One such ms: inhibited, or heard as quiet.
abbrev pub silent_ms : Mode → Reader → Bool → Reader
silent_ms mode r b = cond b (inhibited r) (hear mode r quiet).reader

unfoldable pub silent_all : Mode → Reader → List Bool → Reader
silent_all mode r [] = r
silent_all mode r (b ∷ bs) = silent_all mode (silent_ms mode r b) bs

-- The reader hunts (Baudot, EDT) or needs no more quiet (DTMF).
abbrev pub Settled : Mode → Reader → Type 0
Settled Baudot45 r = r.frame ≡ hunting
Settled Baudot50 r = r.frame ≡ hunting
Settled Dtmf r = r.keys ≡ ready
Settled Edt r = r.frame ≡ hunting
