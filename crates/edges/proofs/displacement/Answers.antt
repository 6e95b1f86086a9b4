-- `displacement` meets its contract: late up to half an element, else early.
use mathlib.Core.Path.{◌≡◌, ◌∙◌, sym, subst}
use Prim.Native.Nat.{ℕ, ◌%◌, ◌≤◌, ◌<◌}
use native.Mathlib.Omega.{arith}
use native.Mathlib.Nat.{mod-lt}
use lib.IntN.{pos, ◌-ℤ◌}
use mir.Syntax.{w32}
use mir.Val.{SFits, to_z}
use mir.ValLaws.{to_z-of_z, to_z_pos}
use borrow.Author.Tests.{le-leb, lt-leb}
use Rattle.edges.specs.Edges.{displacement}
use Rattle.edges.proofs.Integers.{fits-32, early-size}
use Rattle.edges.proofs.displacement.Goals as goal

module _ (e m : ℕ) (some : 1 ≤ e) (few : e ≤ 22) where
  below : m % e < e
  below = mod-lt m some

  late_is : to_z w32 (m % e) ≡ pos (m % e)
  late_is = to_z_pos w32 (m % e) (omega (arith, below))

  less-is : to_z w32 (m % e) -ℤ to_z w32 e ≡ pos (m % e) -ℤ pos e
  less-is =
      let element-is : to_z w32 e ≡ pos e = to_z_pos w32 e (omega arith) in
      λ i. late_is i -ℤ element-is i

  less-fits : SFits w32 (to_z w32 (m % e) -ℤ to_z w32 e)
  less-fits =
      let s = early-size e (m % e) below in
      subst (SFits w32) (sym less-is) (fits-32 (pos (m % e) -ℤ pos e) 22 (omega arith) (omega arith))

pub overflow_mul-late : goal.overflow_mul-late
overflow_mul-late c = let l = below c.args.e c.args.m c.requires.le_e c.requires.e_bound in omega arith

pub overflow_cast-result-else-late-e : goal.overflow_cast-result-else-late-e
overflow_cast-result-else-late-e c =
    let l = below c.args.e c.args.m c.requires.le_e c.requires.e_bound in
    record { sfits = omega arith }

pub overflow_cast-result-else-late-e-2 : goal.overflow_cast-result-else-late-e-2
overflow_cast-result-else-late-e-2 c = record { sfits = omega arith }

pub overflow_sub-result : goal.overflow_sub-result
overflow_sub-result c = less-fits c.args.e c.args.m c.requires.le_e c.requires.e_bound

pub returns-then-late-e : goal.returns-then-late-e
unfolding displacement
returns-then-late-e c =
    rw (le-leb _ _ c.if-late-e.true) (late_is c.args.e c.args.m c.requires.le_e c.requires.e_bound)

pub returns-else-late-e : goal.returns-else-late-e
unfolding displacement
returns-else-late-e c =
    rw (lt-leb _ _ c.if-late-e.false)
    (to_z-of_z w32 _ (less-fits c.args.e c.args.m c.requires.le_e c.requires.e_bound)
    ∙ less-is c.args.e c.args.m c.requires.le_e c.requires.e_bound)
