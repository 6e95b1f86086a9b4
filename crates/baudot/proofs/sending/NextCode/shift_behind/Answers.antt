-- `shift_behind` meets its contract: the code's shift, or the one in force.
use mathlib.Core.Path.{◌∙◌, sym}
use Rattle.baudot.proofs.SendingRule.{behind-other, behind-same}
use Rattle.baudot.proofs.sending.NextCode.shift_behind.Goals as goal

pub returns-then-differs : goal.returns-then-differs
returns-then-differs c =
    behind-other _ _ c.args.self.running c.args.self.own_in (sym c.differs.ensures ∙ c.if-differs.true)

pub returns-else-differs : goal.returns-else-differs
returns-else-differs c =
    behind-same _ _ c.args.self.running (sym c.differs.ensures ∙ c.if-differs.false)
