-- `none` meets its contract.
use mathlib.Core.Path.{ap}
use Rattle.edges.specs.declared.Report.{Report}
use Rattle.edges.specs.Edges.{edges}
use Rattle.edges.proofs.none.Goals as goal

pub returns : goal.returns
returns c = ap (λ (r : Report). edges r 0) c.no_edge.ensures
