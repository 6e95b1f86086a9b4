-- `frame_level` meets its contract, by the two digits.
use borrow.Author.Tests.{ne_eqb}
use Rattle.signal.proofs.frame_level.Goals as goal

pub returns-then-bit-eq1 : goal.returns-then-bit-eq1
returns-then-bit-eq1 c = simp c.if-bit-eq1.true

pub returns-else-bit-eq1 : goal.returns-else-bit-eq1
returns-else-bit-eq1 c = simp (ne_eqb _ _ c.if-bit-eq1.false)
