-- `signal::parity` meets its contract, by one computed test.
use Rattle.signal.proofs.Levels.{parity-sum}
use Rattle.signal.proofs.parity.Goals as goal

pub returns : goal.returns
returns c = parity-sum c.args.c c.requires
