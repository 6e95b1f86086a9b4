-- `is_none` meets its contract.
use mathlib.Core.Bool.{◌&&◌}
use lib.Dec.{eqb}
use Rattle.edges.proofs.is_none.Goals as goal

pub returns : goal.returns
returns c = λ i. c.is_empty.ensures i && eqb c.args.w.level 0
