use mathlib.Core.Path.{◌∙◌, sym, ap}
use mir.Val.{Fits}
use mir.Syntax.{w64}
use Prim.Native.Nat.{◌+◌}
use native.Mathlib.Omega.{arith}
use lib.ListN.{length, get_or}
use Rattle.queue.proofs.Waiters.{left-length, waiters-end, waiter, no-waiter}
use borrow.Author.Rules.{rules}
use Rattle.queue.proofs.count_waiters.Goals as goal
use Rattle.queue.proofs.count_waiters.Goals.{then-waits, else-waits}

pub loop-c-init : goal.loop-c-init
loop-c-init c = (omega arith, omega arith)

pub overflow_add-n : goal.overflow_add-n
overflow_add-n c =
    let f : Fits w64 (c.loop-c.c-index + 1) = search rules in
    omega (arith, c.loop-c.invariant.1)

pub loop-c-preserved : goal.loop-c-preserved
loop-c-preserved c =
    let k = left-length c.args.a c.args.text.now c.loop-c.c-index c.loop-c-test.true in
    let x = get_or c.args.text.now c.loop-c.c-index 0 in
    let v = c.loop-c.invariant in
    let r = sym c.waits.ensures in
    elim c.if-waits.branch [
      | then-waits w ↦ (let e = ap length (waiter c.args.a x (r ∙ w.if-waits.true)) in let q = w.n-is in
          (omega arith, omega arith))
      | else-waits w ↦ (let e = ap length (no-waiter c.args.a x (r ∙ w.if-waits.false)) in let q = w.n-is in
          (omega arith, omega arith))
    ]

pub returns : goal.returns
returns c =
    let e = ap length (waiters-end c.args.a c.args.text.now c.loop-c.c-index c.loop-c-test.false) in
    omega (arith, c.loop-c.invariant.0)
