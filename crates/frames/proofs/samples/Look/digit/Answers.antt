-- `digit` meets its contract: mark adds the top.
use mathlib.Core.Path.{◌≡◌, sym, subst}
use mathlib.Core.Bool.{Bool, true, false, cond}
use Prim.Native.Nat.{ℕ, ◌+◌, ◌*◌, ◌/◌, ◌^◌, ◌<◌}
use native.Mathlib.Nat.{mul-one, mul-zero}
use native.Mathlib.Omega.{arith}
use mir.Val.{bool_byte}
use lib.Dec.{eqb}
use borrow.Author.Tests.{ne_eqb}
use Rattle.lists.proofs.Lists.{either}
use Rattle.frames.specs.Frames.{sampled}
use Rattle.frames.proofs.samples.Look.digit.Goals as goal

-- so many times a bool
times : (top : ℕ) (b : Bool) → top * bool_byte b ≡ cond b top 0
times top true = simp mul-one
times top false = simp mul-zero

few : (top : ℕ) (b : Bool) → top < 128 → top * bool_byte b < 128
few top b h = subst (λ (k : ℕ). k < 128) (sym (times top b)) (either (λ (k : ℕ). k < 128) b top 0 h (omega arith))

product-fits : (top : ℕ) (b : Bool) → top < 128 → top * bool_byte b < 2 ^ 64
product-fits top b h = let f = few top b h in omega arith

sum_fits : (digits top : ℕ) (b : Bool) → digits < 128 → top < 128 → digits / 2 + top * bool_byte b < 2 ^ 64
sum_fits digits top b l h = let f = few top b h in omega arith

pub overflow_mul-result : goal.overflow_mul-result
overflow_mul-result c =
    record { fits = product-fits c.args.top (eqb c.args.self.heard 1) c.requires }

pub overflow_add-result : goal.overflow_add-result
overflow_add-result c =
    record {
      fits = sum_fits c.args.self.digits c.args.top (eqb c.args.self.heard 1) c.args.self.digits_bound
          c.requires;
    }

pub returns : goal.returns
unfolding sampled
returns c =
    λ (m : ℕ). simp (ne_eqb _ _ c.args.self.not_quiet, times c.args.top (eqb c.args.self.heard 1))
