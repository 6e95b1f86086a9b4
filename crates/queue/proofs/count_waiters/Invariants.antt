-- `count_waiters` meets its contract. The invariant: those counted and those left are all.
use mathlib.Core.Path.{◌≡◌}
use Prim.Native.Nat.{◌+◌, ◌≤◌}
use lib.ListN.{length, drop}
use Rattle.queue.specs.Queue.{waiters}
use Rattle.queue.proofs.count_waiters.Given as goal

abbrev pub invariant-loop-c : goal.invariant-loop-c
invariant-loop-c l =
    (l.n + length (waiters l.a (drop l.c-index l.text)) ≡ length (waiters l.a l.text)) × (l.n ≤ l.c-index)
