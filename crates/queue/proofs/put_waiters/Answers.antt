use Rattle.queue.proofs.Waiters.{putting-start, putting-room, putting-turn, putting-end}
use Rattle.queue.proofs.put_waiters.Goals as goal

pub loop-c-init : goal.loop-c-init
loop-c-init c = putting-start _ _ _ _

pub put_char-n-requires : goal.put_char-n-requires
put_char-n-requires c =
    putting-room _ _ _ _ _ _ _ c.loop-c.invariant c.loop-c-test.true c.requires

pub loop-c-preserved : goal.loop-c-preserved
loop-c-preserved c =
    putting-turn _ _ _ _ _ _ _ c.loop-c.invariant _ _ c.loop-c-test.true c.put_char-n.ensures.value
    c.put_char-n.ensures.chars_after

pub returns : goal.returns
returns c = putting-end _ _ _ _ _ _ _ c.loop-c.invariant c.loop-c-test.false
