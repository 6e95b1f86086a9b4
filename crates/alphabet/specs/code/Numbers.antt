-- A number of a mode that the code holds as a constant. A law of `frames` says that it is what the definitions give.
use Rattle.std.specs.Prelude.{ℕ}
use Rattle.alphabet.specs.declared.Mode.{Mode}
use Rattle.alphabet.specs.declared.Mode.TheVariants.{Baudot45, Baudot50, Dtmf, Edt}

-- the ms of a frame's last sample
abbrev pub last_sample : Mode → ℕ
last_sample Baudot45 = 143
last_sample Baudot50 = 130
last_sample Dtmf = 0
last_sample Edt = 95
