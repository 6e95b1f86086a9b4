-- An inhibited ms keeps the reader in range.
use Rattle.reader.proofs.Range.{inhibited-in}
use Rattle.reader_words.proofs.Listener.inhibit.Goals as goal

pub invariant_of-self : goal.invariant_of-self
invariant_of-self c = record { in_range = rw c.inhibited-self.ensures (inhibited-in _ _ c.args.self.now.in_range) }
