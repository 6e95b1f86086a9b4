-- What the entry gives back to C for what the reading gave; a refusal gives back the shift that was given.
use Rattle.std.specs.Prelude.{ℕ, Result, Ok, Err}
use Rattle.refusals.specs.declared.Refusal.{Refusal}
use Rattle.refusals.specs.Refusals.{number}
use Rattle.baudot.specs.declared.BaudotText.{BaudotText}
use Rattle.baudot.specs.Entries.{read}
use Rattle.baudot_reading.specs.declared.Taken.{Taken}

abbrev pub text_reply : ℕ → Result Taken Refusal → BaudotText
text_reply shift (Ok t) = read 0 t.shift t.at
text_reply shift (Err r) = read (number r) shift 0
