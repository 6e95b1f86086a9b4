-- `differs` meets its contract: the common bits of the two shifts say whether they differ.
use Rattle.baudot.proofs.SendingRule.{meets}
use Rattle.baudot.proofs.sending.NextCode.differs.Goals as goal

pub returns : goal.returns
returns c = meets _ _ c.args.self.running c.args.self.own_in
