-- `settle_by` meets its contract.
use mathlib.Core.Path.{◌∙◌}
use Rattle.half_duplex.proofs.settle_by.Goals as goal

pub returns : goal.returns
returns c =
    c.next_code.ensures ∙ simp (c.of.ensures, c.begun.ensures)
