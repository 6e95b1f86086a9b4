-- `in_range` meets its contract.
use borrow.Author.Tests.{le-leb, lt-leb}
use Rattle.queue.specs.Queue.{all_wait, in_range}
use Rattle.queue.proofs.in_range.Goals as goal

-- none waits
pub returns-then-waiting-eq0 : goal.returns-then-waiting-eq0
unfolding in_range all_wait
returns-then-waiting-eq0 c = simp c.if-waiting-eq0.true

pub returns-then-waiting-le-MOST : goal.returns-then-waiting-le-MOST
unfolding in_range
returns-then-waiting-le-MOST c = simp (c.all_wait.ensures, le-leb _ _ c.if-waiting-le-MOST.true)

pub returns-else-waiting-le-MOST : goal.returns-else-waiting-le-MOST
unfolding in_range
returns-else-waiting-le-MOST c = simp (lt-leb _ _ c.if-waiting-le-MOST.false)
