-- `waits_dtmf` meets its contract.
use mathlib.Core.Path.{◌∙◌}
use mathlib.Core.Bool.{◌||◌}
use lib.Dec.{eqb}
use Rattle.queue.proofs.Ranges.{in-dtmf}
use borrow.Author.Rules.{rules}
use Rattle.queue.proofs.waits_dtmf.Goals as goal

pub returns : goal.returns
returns c =
    let x = c.args.c.0 in
    (λ j. (((((((c.between.ensures j || eqb x 0x1a)
    || c.between-2.ensures j)
    || c.between-3.ensures j)
    || c.between-4.ensures j)
    || c.between-5.ensures j)
    || eqb x 0x5f)
    || c.between-6.ensures j))
    ∙ in-dtmf x (search rules)
