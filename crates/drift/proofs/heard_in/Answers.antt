-- `heard_in` meets its contract.
use mathlib.Core.Path.{◌≡◌, ap}
use Prim.Native.Nat.{ℕ, ◌-◌}
use native.Mathlib.Omega.{arith}
use lib.ListN.{take, drop}
use Rattle.edges.specs.code.Measuring.{report_over}
use Rattle.drift.specs.code.Moments.{frame_behind, edges_behind}
use Rattle.drift.proofs.heard_in.Goals as goal

pub returns-then-to-from : goal.returns-then-to-from
unfolding report_over
returns-then-to-from c =
    let none : 0 ≡ c.args.to - c.args.from = omega arith in
    ap (λ (n : ℕ).
    report_over c.args.mode (frame_behind c.args.from c.args.f) (edges_behind c.args.from c.args.w) c.args.r
    (take n (drop c.args.from c.args.heard.now))) none
