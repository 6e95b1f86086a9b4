-- What the entry gives back to C for what the sending gave; a refusal gives back the shift and count that were given.
use Rattle.std.specs.Prelude.{Result, Ok, Err}
use Rattle.refusals.specs.declared.Refusal.{Refusal}
use Rattle.refusals.specs.Refusals.{number}
use Rattle.baudot.specs.declared.Sender.{Sender}
use Rattle.baudot.specs.declared.BaudotSent.{BaudotSent}
use Rattle.baudot.specs.Entries.{sent}
use Rattle.baudot_sending.specs.declared.Placed.{Placed}

abbrev pub codes_reply : Sender → Result Placed Refusal → BaudotSent
codes_reply s (Ok p) = sent 0 p.sender.shift p.sender.count p.at
codes_reply s (Err r) = sent (number r) s.shift s.count 0
