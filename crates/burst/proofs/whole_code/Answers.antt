-- `whole_code` meets its contract.
use mathlib.Core.Path.{◌∙◌, ap}
use Rattle.burst.specs.code.Next.{whole}
use Rattle.burst.proofs.whole_code.Goals as goal

pub returns : goal.returns
returns c = c.whole.ensures ∙ ap (whole _) c.code_begins.ensures
