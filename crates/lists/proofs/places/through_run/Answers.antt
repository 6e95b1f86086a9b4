use Prim.Native.Nat.{ℕ}
use native.Mathlib.Omega.{arith}
use Rattle.lists.proofs.Eights.{eight-turn, eight-all}
use Rattle.lists.proofs.places.through_run.Goals as goal

pub returns-then-others-ne0 : goal.returns-then-others-ne0
returns-then-others-ne0 c =
    eight-turn _ (λ (j : ℕ). omega (arith, c.type_inv.xs j)) _ (omega (arith, c.ranges.x)) _ _ _ _ _
    c.loop-i.invariant (omega arith) c.eight.ensures c.from-same.ensures _ c.alike_bytes.ensures

pub loop-i-preserved : goal.loop-i-preserved
loop-i-preserved c =
    eight-all _ (λ (j : ℕ). omega (arith, c.type_inv.xs j)) _ (omega (arith, c.ranges.x)) _ _ _ _ _
    c.loop-i.invariant (omega arith) c.eight.ensures c.from-same.ensures c.if-others-ne0.false
