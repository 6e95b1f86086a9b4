-- `hear_key` meets its contract.
use Rattle.reader.proofs.hear_key.Goals as goal

pub returns : goal.returns
returns c = simp (c.key_outcome-o.ensures, c.key_step-k.ensures)
