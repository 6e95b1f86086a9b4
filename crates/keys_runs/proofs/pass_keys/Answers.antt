use native.Mathlib.Omega.{arith}
use Rattle.lists.proofs.Lists.{at-most-at}
use Rattle.keys_runs.proofs.pass_keys.Goals as goal

pub pass_held-requires-clause-level_bound : goal.pass_held-requires-clause-level_bound
pass_held-requires-clause-level_bound c =
    at-most-at 16 _ c.args.levels.ranged _ (omega (arith, c.if-k-heard.false))
