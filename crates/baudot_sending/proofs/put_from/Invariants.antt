-- `put_from` meets its contract. The invariant: what is left, and the slice as written so far.
use Rattle.baudot_sending.proofs.Left.{Writing}
use Rattle.baudot_sending.proofs.put_from.Given as goal

abbrev pub invariant-loop-byte : goal.invariant-loop-byte
invariant-loop-byte l = Writing l.text.bytes.now l.initial.codes l.initial.placed l.codes l.placed l.byte-index
