-- `first_code` meets its contract. The invariant: the characters passed send nothing.
use Rattle.baudot_sending.proofs.OpeningRule.{Quiet}
use Rattle.baudot_sending.proofs.first_code.Given as goal

abbrev pub invariant-loop-i : goal.invariant-loop-i
invariant-loop-i l = Quiet l.text.bytes.now l.i
