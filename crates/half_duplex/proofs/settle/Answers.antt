-- `settle` meets its contract.
use mathlib.Core.Path.{refl}
use Rattle.half_duplex.specs.Core.{settled}
use Rattle.half_duplex.proofs.settle.Goals as goal

pub returns : goal.returns
unfolding settled
returns c = rw (c.settle_by.ensures, c.may_begin.ensures) refl
