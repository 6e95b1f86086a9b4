-- `count_from` meets its contract. The invariant: what is left.
use Rattle.baudot_sending.proofs.Left.{Left}
use Rattle.baudot_sending.proofs.count_from.Given as goal

abbrev pub invariant-loop-byte : goal.invariant-loop-byte
invariant-loop-byte l = Left l.text.bytes.now l.initial.placed l.placed l.byte-index
