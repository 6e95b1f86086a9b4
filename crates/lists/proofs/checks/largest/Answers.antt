-- `checks::largest` meets its contract.
use mathlib.Core.Path.{◌≡◌, ◌∙◌}
use mathlib.Core.List.{List}
use Prim.Native.Nat.{ℕ, ◌-◌, ◌≤◌}
use native.Mathlib.Omega.{arith}
use lib.Dec.{leb}
use lib.ListN.{length, take, drop, length-drop}
use lib.Seq.{take-take, take_all}
use borrow.Author.Tests.{leb-true}
use borrow.Author.Rules.{rules}
use Rattle.lists.specs.Lists.{all_at_most}
use Rattle.lists.specs.code.Checks.{LargestOfFronts}
use Rattle.lists.proofs.Lists.{and_left, and_right, at-most-ends}
use Rattle.lists.proofs.checks.largest.Goals as goal

-- the first 16 and the last 16
both_ends : (xs : List ℕ) (largest : ℕ) → let n = length xs in 16 ≤ n → n ≤ 32
    → LargestOfFronts 16 xs (take (n - (n - 16)) (drop (n - 16) xs)) largest
    → (m : ℕ) → leb largest m ≡ all_at_most m xs
both_ends xs largest h l so m =
    let j = length xs - 16 in
    let d = length-drop j xs in
    let e : take 16 (take (length xs - j) (drop j xs)) ≡ drop j xs
    = take-take 16 (length xs - j) (drop j xs) (omega arith) ∙ take_all 16 (drop j xs) (omega arith) in
    so m ∙ (rw e (at-most-ends m xs 16 j (omega arith)))

pub returns-then-n : goal.returns-then-n
returns-then-n c =
    let sized : let n = length c.args.xs.now in (16 ≤ n) × (n ≤ 32) = search (rules, leb-true, and_left, and_right) in
    both_ends _ _ sized.0 sized.1 c.largest_of_fronts.ensures
