-- `checks::all_at_least` meets its contract: the last byte, if it is too small, and the smallest one.
use mathlib.Core.Path.{◌≡◌, sym}
use mathlib.Core.Bool.{false}
use mathlib.Core.List.{List}
use Prim.Native.Nat.{ℕ, ◌-◌, ◌≤◌, ◌<◌}
use native.Mathlib.Omega.{arith}
use lib.ListN.{length, get_or}
use Rattle.lists.specs.Lists.{all_at_least}
use Rattle.lists.proofs.Lists.{by-test, at-least-at}
use Rattle.lists.proofs.checks.all_at_least.Goals as goal

-- the last one is too small
last-small : (m : ℕ) (xs : List ℕ) → 1 ≤ length xs → get_or xs (length xs - 1) 0 < m → false ≡ all_at_least m xs
last-small m xs some small =
    by-test (all_at_least m xs)
    (λ e. let h = at-least-at m xs e (length xs - 1) (omega arith) in absurd (omega arith))
    (λ e. sym e)

pub returns-in-len1-up : goal.returns-in-len1-up
returns-in-len1-up c = last-small _ _ c.in-len1-up.len_at_least c.if-last-m.true
