-- A code is below 256, so that its signal has at most the longest ms of its mode.
use Rattle.std.proofs.Common.{arith, rules}
use Rattle.signal.proofs.Lengths.{within-longest}
use Rattle.signal_tables.proofs.print_signal.Goals as goal

pub level-requires-clause-at_bound : goal.level-requires-clause-at_bound
level-requires-clause-at_bound g c =
    let m = within-longest c.args.mode c.args.code.0 (search rules) in
    omega (arith, m, c.duration-at-end.ensures, c.loop-at-test.true)
