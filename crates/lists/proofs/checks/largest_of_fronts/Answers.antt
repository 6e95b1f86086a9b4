use mathlib.Core.Path.{◌∙◌}
use mathlib.Core.Bool.{◌&&◌}
use mathlib.Core.List.{List}
use Prim.Native.Nat.{ℕ, ◌+◌, ◌<◌, max}
use native.Mathlib.Numerals.{add-one}
use native.Mathlib.Omega.{arith}
use lib.ListN.{length, get_or, take}
use borrow.Author.Tests.{le-leb}
use Rattle.lists.specs.Lists.{all_at_most}
use Rattle.lists.specs.code.Checks.{LargestOfFronts}
use Rattle.lists.proofs.Lists.{and-across, larger-at-most, at-most-take}
use Rattle.lists.proofs.checks.largest_of_fronts.Goals as goal

-- one more of each
fronts-turn : (xs ys : List ℕ) (i largest : ℕ) → i < length xs → i < length ys → LargestOfFronts i xs ys largest
    → LargestOfFronts (i + 1) xs ys (max largest (max (get_or xs i 0) (get_or ys i 0)))
fronts-turn xs ys i largest h l so m =
    let x = get_or xs i 0 in
    let y = get_or ys i 0 in
    rw (add-one, at-most-take m xs i h, at-most-take m ys i l)
    (larger-at-most largest (max x y) m ∙ (λ k. so m k && larger-at-most x y m k)
    ∙ and-across (all_at_most m (take i xs)) _ _ _)

pub loop-i-init : goal.loop-i-init
unfolding all_at_most
loop-i-init c = (omega arith, λ (m : ℕ). le-leb 0 m (omega arith))

pub loop-i-preserved : goal.loop-i-preserved
loop-i-preserved c = (
  omega arith,
  rw (c.max-largest.ensures, c.max.ensures)
      (fronts-turn c.args.xs.now c.args.ys.now c.loop-i.i _ (omega arith) (omega arith) c.loop-i.invariant.1),
)
