-- `frame_step` meets its contract: hunting, waiting, in a frame.
use borrow.Author.Tests.{ne_eqb}
use Rattle.frames.specs.Frames.{frame_step}
use Rattle.frames.proofs.frame_step.Goals as goal
use Rattle.frames.proofs.frame_step.Goals.{in-0+else-heard-eq-SPACE, in-1+else-heard-eq-SPACE-2}

pub returns-in-0 : goal.returns-in-0
unfolding frame_step
returns-in-0 c = simp (c.nothing.ensures, c.in-0.is, c.if-heard-eq-SPACE.true)

pub returns-in-1 : goal.returns-in-1
unfolding frame_step
returns-in-1 c = simp (c.nothing-in-1.ensures, c.in-1.is, c.if-heard-eq-SPACE-2.true)

pub returns-in-0-2 : goal.returns-in-0-2
unfolding frame_step
returns-in-0-2 c =
    elim c.in-0-2-1.branch [
      | in-0+else-heard-eq-SPACE w ↦
          simp (c.nothing-in-0-2.ensures, w.in-0.is, ne_eqb _ _ w.if-heard-eq-SPACE.false)
      | in-1+else-heard-eq-SPACE-2 w ↦
          simp (c.nothing-in-0-2.ensures, w.in-1.is, ne_eqb _ _ w.if-heard-eq-SPACE-2.false)
    ]
