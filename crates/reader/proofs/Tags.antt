-- Which cases are left where a mode is not DTMF.
use mathlib.Core.Path.{◌≡◌, refl}
use Rattle.alphabet.specs.declared.Mode.{Mode}
use Rattle.alphabet.specs.declared.Mode.TheVariants.{Baudot45, Baudot50, Dtmf, Edt}
use Rattle.frames.specs.code.Bounds.{Framed}

-- any mode but DTMF
pub framed-by : (m : Mode) → (m ≡ Dtmf → ⊥) → Framed m
framed-by Baudot45 p = tt
framed-by Baudot50 p = tt
framed-by Dtmf p = absurd (p refl)
framed-by Edt p = tt
