-- `wants_shift` meets its contract: the two tests say whether anything is wanted.
use mathlib.Core.Path.{◌∙◌}
use mathlib.Core.Bool.{◌||◌}
use lib.Dec.{leb}
use Rattle.baudot.proofs.SendingRule.{wants_is}
use Rattle.baudot.proofs.sending.NextCode.wants_shift.Goals as goal

pub returns : goal.returns
returns c =
    (λ j. c.differs.ensures j || leb 72 c.args.self.sender.count)
    ∙ wants_is _ _ c.args.self.running c.args.self.own_in
