-- `start` meets its contract.
use Prim.Native.Nat.{ℕ}
use borrow.Author.Tests.{eq-eqb, ne_eqb}
use Rattle.frames.specs.Frames.{sampled}
use Rattle.frames.proofs.samples.start.Goals as goal

pub returns-then-heard-eq-SPACE : goal.returns-then-heard-eq-SPACE
unfolding sampled
returns-then-heard-eq-SPACE c = λ (m : ℕ). simp (eq-eqb _ _ c.if-heard-eq-SPACE.true)

pub returns-else-heard-eq-SPACE : goal.returns-else-heard-eq-SPACE
unfolding sampled
returns-else-heard-eq-SPACE c = λ (m : ℕ). simp (ne_eqb _ _ c.if-heard-eq-SPACE.false)
