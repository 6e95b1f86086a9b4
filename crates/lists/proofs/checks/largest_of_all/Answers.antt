use mathlib.Core.Path.{◌∙◌}
use Prim.Native.Nat.{ℕ}
use Rattle.lists.proofs.Lists.{at-most-larger, at-most-all}
use Rattle.lists.proofs.checks.largest_of_all.Goals as goal

pub loop-x-preserved : goal.loop-x-preserved
loop-x-preserved c =
    λ (m : ℕ). rw c.max-largest.ensures (at-most-larger m _ _ _ c.loop-x-test.true ∙ c.loop-x.invariant m)

pub returns : goal.returns
returns c =
    λ (m : ℕ). at-most-all m c.args.xs.now _ _ c.loop-x-test.false (c.loop-x.invariant m)
