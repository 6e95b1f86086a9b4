-- `put_waiters` meets its contract. The invariant: what is left, written behind what stands there, is the whole.
use Rattle.queue.proofs.Waiters.{Putting}
use Rattle.queue.proofs.put_waiters.Given as goal

abbrev pub invariant-loop-c : goal.invariant-loop-c
invariant-loop-c l = Putting l.a l.text l.initial.chars l.at l.chars l.n l.c-index
