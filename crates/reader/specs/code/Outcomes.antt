-- What the functions of this crate hand to one another.
use Rattle.std.specs.Prelude.{ℕ}
use Rattle.reader.specs.declared.Event.{Event}
use Rattle.reader.specs.declared.Outcome.{Outcome}

abbrev pub outcome : ℕ → Event → Outcome
outcome next event = record { next = next; event = event }
