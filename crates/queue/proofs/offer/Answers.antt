-- `offer` meets its contract.
use native.Mathlib.Omega.{arith}
use borrow.Author.Tests.{leb-true}
use Rattle.queue.specs.Queue.{room, offered}
use Rattle.queue.proofs.offer.Goals as goal

pub put_waiters-requires : goal.put_waiters-requires
unfolding room
put_waiters-requires c = omega (arith, leb-true)

pub returns : goal.returns
unfolding offered
returns c = c.put_waiters.ensures
