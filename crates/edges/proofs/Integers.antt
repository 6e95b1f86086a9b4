-- Laws on integers that the proofs share: how large a sum, the smaller or larger of two and a displacement are, and
-- what fits.
use mathlib.Core.Path.{◌≡◌, ◌∙◌, sym, ap}
use Prim.Native.Nat.{ℕ, zero, suc, ◌+◌, ◌-◌, ◌*◌, ◌%◌, ◌≤◌, ◌<◌}
use native.Mathlib.Omega.{arith}
use native.Mathlib.Nat.{mod-lt}
use lib.Dec.{eqb, leb, ltb}
use lib.IntN.{ℤ, pos, negsuc, nat_abs, sub_ℕ, ◌+ℤ◌, ◌-ℤ◌}
use lib.Signed.{le_z}
use mir.Syntax.{w32}
use mir.Val.{SFits, to_z, of_z}
use mir.ValLaws.{to_z-of_z}
use borrow.Author.Tests.{eq-eqb, ne_eqb, eqb-true, eqb-false, ltb-true, ltb-false, leb-true, leb-false}
use Rattle.std.specs.Int.{int_min, int_max}
use Rattle.std.proofs.lemmas.Int.{ints}
use Rattle.lists.proofs.Lists.{either, either-by, by-test}
use Rattle.edges.specs.Edges.{smaller, larger, displacement}

-- a difference of two naturals
sub-size : (a b : ℕ) → nat_abs (sub_ℕ a b) ≤ a + b
sub-size a b =
    either-by (λ (z : ℤ). nat_abs z ≤ a + b) (ltb a b) (λ e. let h = ltb-true a b e in omega arith) (λ e. omega arith)

-- it is small on the way down
sub-down : (a b : ℕ) → a < b → nat_abs (sub_ℕ a b) ≤ b - a
sub-down a b l =
    either-by (λ (z : ℤ). nat_abs z ≤ b - a) (ltb a b) (λ e. omega arith)
    (λ e. let h = ltb-false a b e in omega arith)

pub sum-size : (a b : ℤ) → nat_abs (a +ℤ b) ≤ nat_abs a + nat_abs b
sum-size (pos a) (pos b) = omega arith
sum-size (pos a) (negsuc b) = sub-size a (suc b)
sum-size (negsuc a) (pos b) = let h = sub-size b (suc a) in omega arith
sum-size (negsuc a) (negsuc b) = omega arith

pub fits-32 : (z : ℤ) (n : ℕ) → nat_abs z ≤ n → n < 2_147_483_648 → SFits w32 z
fits-32 (pos a) n h l = record { sfits = omega arith }
fits-32 (negsuc a) n h l = record { sfits = omega arith }

pub zero_is : (z : ℤ) → nat_abs z ≡ 0 → z ≡ pos 0
zero_is (pos a) e = ap pos e
zero_is (negsuc a) e = absurd (omega arith)

-- what the library calls the smaller and the larger
pub least : (a b : ℤ) → int_min a b ≡ smaller a b
least a b = grind (arith, ints)

pub most : (a b : ℤ) → int_max a b ≡ larger a b
most a b = grind (arith, ints)

pub smaller-size : (n : ℕ) (a b : ℤ) → nat_abs a ≤ n → nat_abs b ≤ n → nat_abs (smaller a b) ≤ n
smaller-size n a b h k = either (λ (z : ℤ). nat_abs z ≤ n) (le_z a b) a b h k

pub larger-size : (n : ℕ) (a b : ℤ) → nat_abs a ≤ n → nat_abs b ≤ n → nat_abs (larger a b) ≤ n
larger-size n a b h k = either (λ (z : ℤ). nat_abs z ≤ n) (le_z a b) b a k h

-- an early edge: late less the element
pub early-size : (e late : ℕ) → late < e → nat_abs (pos late -ℤ pos e) ≤ e - late
early-size zero late l = absurd (omega arith)
early-size (suc k) late l = sub-down late (suc k) l

pub displacement-size : (e m : ℕ) → 1 ≤ e → e ≤ 22 → nat_abs (displacement e m) ≤ 11
unfolding displacement
displacement-size e m o h =
    either-by (λ (z : ℤ). nat_abs z ≤ 11) (leb (2 * (m % e)) e)
    (λ t. let l = leb-true (2 * (m % e)) e t in omega arith)
    (λ t.
    let l = leb-false (2 * (m % e)) e t in
    let s = early-size e (m % e) (mod-lt m o) in
    omega arith)

-- a number that was stored is 0 if its size is
pub zero_test : (z : ℤ) → SFits w32 z → eqb (of_z w32 z) 0 ≡ eqb (nat_abs z) 0
zero_test z f =
    by-test (eqb (of_z w32 z) 0)
    (λ e.
    let is : z ≡ pos 0 = sym (to_z-of_z w32 z f) ∙ ap (to_z w32) (eqb-true (of_z w32 z) 0 e) in
    e ∙ sym (eq-eqb (nat_abs z) 0 (ap nat_abs is)))
    (λ e. e ∙ sym (ne_eqb (nat_abs z) 0 (λ a. eqb-false (of_z w32 z) 0 e (ap (of_z w32) (zero_is z a)))))
