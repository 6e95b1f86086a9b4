use Rattle.keys_runs.proofs.Keying.{passes-quiet}
use Rattle.keys_runs.proofs.pass_quiet.Goals as goal

pub returns : goal.returns
returns c =
    passes-quiet _ c.args.levels.ranged _ c.args.k.ranged c.if-k-ne0.false c.if-k-ne0-2.false _ _ _ _
    c.quiet_from-from.ensures c.up_to-end.ensures c.through-to.ensures
