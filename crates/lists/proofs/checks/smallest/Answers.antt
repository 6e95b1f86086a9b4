use mathlib.Core.Path.{◌∙◌}
use Prim.Native.Nat.{ℕ, ◌≤◌}
use Rattle.lists.proofs.Lists.{at-least-smaller, at-least-all}
use Rattle.lists.proofs.checks.smallest.Goals as goal

pub loop-x-preserved : goal.loop-x-preserved
loop-x-preserved c =
    λ (m : ℕ) (h : m ≤ 255). rw c.min-smallest.ensures (at-least-smaller m _ _ _ c.loop-x-test.true
    ∙ c.loop-x.invariant m h)

pub returns : goal.returns
returns c =
    λ (m : ℕ) (h : m ≤ 255). at-least-all m c.args.xs.now _ _ c.loop-x-test.false (c.loop-x.invariant m h)
