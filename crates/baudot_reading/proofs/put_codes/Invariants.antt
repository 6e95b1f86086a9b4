-- `put_codes` meets its contract. The invariant: what is left, and the slice as written so far.
use Rattle.baudot_reading.proofs.ReadingRule.{Reading}
use Rattle.baudot_reading.proofs.put_codes.Given as goal

abbrev pub invariant-loop-code : goal.invariant-loop-code
invariant-loop-code l = Reading l.codes l.initial.text l.shift l.text l.taken l.code-index
