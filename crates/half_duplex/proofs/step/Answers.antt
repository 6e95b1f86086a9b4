-- `step` meets its contract.
use mathlib.Core.Path.{refl}
use Rattle.half_duplex.proofs.step.Goals as goal

pub returns : goal.returns
returns c =
    rw (c.step_by.ensures, c.may_end.ensures, c.waiting_after.ensures) refl
