-- `all_wait` meets its contract.
use mathlib.Core.Path.{◌∙◌}
use mathlib.Core.Bool.{true, ◌&&◌}
use Rattle.std.proofs.Common.{rules, tests}
use Rattle.std.proofs.lemmas.Iterator.{YieldsList-from_slice}
use Rattle.std.proofs.lemmas.Iterator.Consumers.{fold_from_yields_List}
use Rattle.queue.specs.Queue.{waits}
use Rattle.queue.proofs.Waiters.{wait-fold}
use Rattle.queue.proofs.all_wait.Goals as goal

pub returns : goal.returns
returns c =
    fold_from_yields_List _ (λ b x. b && waits c.args.a x) true _ c.fold.ensures.ran
    (YieldsList-from_slice c.args.chars.now cc) (λ b x r q k. search (rules, tests))
    ∙ wait-fold c.args.a true c.args.chars.now
