-- `whole_opening` meets its contract.
use mathlib.Core.Path.{◌∙◌, ap}
use Rattle.burst.specs.code.Next.{whole}
use Rattle.burst.proofs.whole_opening.Goals as goal

pub returns : goal.returns
returns c = c.whole.ensures ∙ ap (whole _) c.opening_begins.ensures
