-- `one_gone` meets its contract.
use mathlib.Core.Path.{sym}
use Rattle.burst.proofs.Laws.{gone-none, gone_one}
use native.Mathlib.Omega.{arith}
use Rattle.burst.proofs.one_gone.Goals as goal

pub returns-then-part_ms-l : goal.returns-then-part_ms-l
returns-then-part_ms-l c = sym (gone-none _ _ (omega (arith, c.if-part_ms-l.true)))

pub returns-else-part_ms-l : goal.returns-else-part_ms-l
returns-else-part_ms-l c = sym (gone_one _ _ (omega (arith, c.if-part_ms-l.false)))
