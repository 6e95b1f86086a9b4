-- `waits_baudot` meets its contract.
use mathlib.Core.Path.{◌∙◌}
use mathlib.Core.Bool.{◌||◌}
use lib.Dec.{eqb}
use Rattle.queue.proofs.Ranges.{in-baudot}
use borrow.Author.Rules.{rules}
use Rattle.queue.proofs.waits_baudot.Goals as goal

pub returns : goal.returns
returns c =
    let x = c.args.c.0 in
    (λ j. (c.between.ensures j || eqb x 0x1a) || c.between-2.ensures j) ∙ in-baudot x (search rules)
