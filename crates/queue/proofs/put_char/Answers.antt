-- `put_char` meets its contract.
use mathlib.Core.Path.{◌∙◌, sym, ap}
use native.Mathlib.Omega.{arith}
use lib.ListN.{length}
use Rattle.queue.proofs.Waiters.{waiter, no-waiter}
use Rattle.queue.proofs.put_char.Goals as goal

pub bounds-chars-at : goal.bounds-chars-at
bounds-chars-at c =
    let e = ap length (waiter c.args.a c.args.c.0 (sym c.waits.ensures ∙ c.if-waits.true)) in
    omega arith

pub returns-then-waits : goal.returns-then-waits
returns-then-waits c =
    let e = waiter c.args.a c.args.c.0 (sym c.waits.ensures ∙ c.if-waits.true) in
    record { value = simp e; chars_after = simp e }

pub returns-else-waits : goal.returns-else-waits
returns-else-waits c =
    let e = no-waiter c.args.a c.args.c.0 (sym c.waits.ensures ∙ c.if-waits.false) in
    record { value = simp e (omega arith); chars_after = simp e }
