-- `inhibited` meets its contract.
use Rattle.reader.specs.Reader.{inhibited}
use Rattle.reader.proofs.inhibited.Goals as goal

pub returns : goal.returns
unfolding inhibited
returns c = simp c.key_step.ensures
