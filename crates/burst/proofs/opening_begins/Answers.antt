-- `opening_begins` meets its contract.
use mathlib.Core.Path.{◌∙◌, ap}
use Rattle.burst.specs.Line.{shift_begins}
use Rattle.burst.proofs.Laws.{shift_made}
use Rattle.burst.proofs.opening_begins.Goals as goal

pub returns : goal.returns
returns c =
    simp c.code.ensures
    (shift_made _ _ c.shift_code.ensures ∙ ap shift_begins c.opening_shift-shift.ensures)
