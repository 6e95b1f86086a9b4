-- `space` meets its contract.
use borrow.Author.Tests.{le-leb, lt-leb}
use Rattle.std.proofs.Common.{arith}
use Rattle.queue.specs.Queue.{room}
use Rattle.queue.proofs.Waiters.{waiters-few}
use Rattle.queue.proofs.space.Goals as goal

pub overflow_add-after : goal.overflow_add-after
overflow_add-after c =
    let few = waiters-few c.args.a c.args.text.now in
    omega arith

pub returns-then-after : goal.returns-then-after
unfolding room
returns-then-after c =
    let e = c.count_waiters.ensures in (le-leb _ 256 (omega arith), omega arith)

pub returns-else-after : goal.returns-else-after
unfolding room
returns-else-after c =
    let e = c.count_waiters.ensures in lt-leb _ 256 (omega arith)
