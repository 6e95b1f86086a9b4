-- `is_edge` meets its contract: the product of two numbers is 2 if one is 1 and the other 2.
use mathlib.Core.Path.{◌≡◌, ◌∙◌, refl, sym, ap}
use mathlib.Core.Bool.{Bool, true, false, ◌||◌}
use Prim.Native.Nat.{ℕ, zero, suc, ◌*◌, ◌≤◌}
use native.Mathlib.Omega.{arith}
use native.Mathlib.Nat.{mul-le-mul}
use lib.Dec.{eqb}
use borrow.Author.Tests.{eq-eqb, ne_eqb, eqb-true, eqb-false}
use Rattle.lists.proofs.Lists.{by-test}
use Rattle.edges.specs.Edges.{is_edge}
use Rattle.edges.proofs.is_edge.Goals as goal

or-false : (b : Bool) → b ≡ (b || false)
or-false true = refl
or-false false = refl

twice : (b : ℕ) → eqb (2 * b) 2 ≡ eqb b 1
twice b =
    by-test (eqb b 1)
    (λ e. let z = eqb-true b 1 e in eq-eqb (2 * b) 2 (omega arith) ∙ sym e)
    (λ e. let z = eqb-false b 1 e in ne_eqb (2 * b) 2 (λ t. z (omega arith)) ∙ sym e)

not-two : (a b : ℕ) → 3 ≤ a → a * b ≡ 2 → ⊥
not-two a zero h e = omega arith
not-two a (suc b) h e = let k = mul-le-mul {n₁ = 3} {m₁ = 1} {n₂ = a} {m₂ = suc b} h (omega arith) in omega arith

product : (a b : ℕ) → eqb (a * b) 2 ≡ is_edge a b
unfolding is_edge
product zero b = ne_eqb (0 * b) 2 (λ e. omega arith)
product (suc zero) b = let same : 1 * b ≡ b = omega arith in ap (λ (n : ℕ). eqb n 2) same ∙ or-false (eqb b 2)
product (suc (suc zero)) b = twice b
product (suc (suc (suc a))) b =
    let n = suc (suc (suc a)) in
    rw (ne_eqb n 1 (λ e. omega arith), ne_eqb n 2 (λ e. omega arith)) (ne_eqb (n * b) 2 (not-two n b (omega arith)))

pub overflow_mul-result : goal.overflow_mul-result
overflow_mul-result c =
    let a = c.ranges.before.fits in
    let b = c.ranges.heard.fits in
    let k = mul-le-mul {n₁ = c.args.before} {m₁ = c.args.heard} {n₂ = 255} {m₂ = 255} (omega arith) (omega arith) in
    record { fits = omega arith }

pub returns : goal.returns
returns c = product c.args.before c.args.heard
