-- A heard ms keeps the reader in range.
use Rattle.reader.proofs.Range.{hear-in}
use Rattle.reader_words.proofs.Listener.hear.Goals as goal

pub invariant_of-self : goal.invariant_of-self
invariant_of-self g c =
    record { in_range = rw c.hear-reading.ensures (hear-in _ _ _ c.requires c.args.self.now.in_range) }
