-- A prefix with one more mark is at most 15.
use Rattle.std.proofs.Common.{arith}
use Rattle.alphabet.specs.Dtmf.{with_mark}
use Rattle.alphabet_tables.proofs.Marks.prefix.Goals as goal

pub loop-place-preserved : goal.loop-place-preserved
unfolding with_mark
loop-place-preserved c = grind arith
