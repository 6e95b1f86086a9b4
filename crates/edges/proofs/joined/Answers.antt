-- `joined` meets its contract: one report is empty, or both have edges.
use mathlib.Core.Path.{◌≡◌, ◌∙◌, refl, sym, ap, subst}
use Prim.Native.Nat.{◌+◌}
use native.Mathlib.Omega.{arith}
use lib.IntN.{ℤ, ◌+ℤ◌}
use mir.Syntax.{w32}
use mir.Val.{SFits, to_z, of_z}
use mir.ValLaws.{to_z-of_z}
use borrow.Author.Tests.{ne_eqb}
use Rattle.std.specs.Int.{int_min, int_max}
use Rattle.edges.specs.declared.Report.{Report}
use Rattle.edges.specs.Edges.{report, smaller, larger, joined}
use Rattle.edges.specs.code.Bounds.{ReportOf}
use Rattle.edges.proofs.Integers.{fits-32, sum-size, smaller-size, larger-size, least, most}
use Rattle.edges.proofs.joined.Goals as goal

abbrev stored : ℤ → ℤ
stored z = to_z w32 (of_z w32 z)

module _ {r : Report} (h : ReportOf 1_000_000 r) where
  sum_is : stored r.sum ≡ r.sum
  sum_is =
      let f = h.few in
      let s = h.sum_in in
      to_z-of_z w32 r.sum (fits-32 r.sum 11_000_000 (omega arith) (omega arith))

  smallest-is : stored r.smallest ≡ r.smallest
  smallest-is = to_z-of_z w32 r.smallest (fits-32 r.smallest 11 h.smallest_in (omega arith))

  largest-is : stored r.largest ≡ r.largest
  largest-is = to_z-of_z w32 r.largest (fits-32 r.largest 11 h.largest_in (omega arith))

module _ {a b : Report} (h : ReportOf 1_000_000 a) (k : ReportOf 1_000_000 b) where
  both-sum : stored a.sum +ℤ stored b.sum ≡ a.sum +ℤ b.sum
  both-sum = λ i. sum_is h i +ℤ sum_is k i

  sum_fits : SFits w32 (stored a.sum +ℤ stored b.sum)
  sum_fits =
      let f = h.few in
      let g = k.few in
      let p = h.sum_in in
      let q = k.sum_in in
      let s = sum-size a.sum b.sum in
      subst (SFits w32) (sym both-sum) (fits-32 (a.sum +ℤ b.sum) 22_000_000 (omega arith) (omega arith))

  smallest-of : {z : ℤ} → z ≡ int_min (stored a.smallest) (stored b.smallest)
      → stored z ≡ smaller a.smallest b.smallest
  smallest-of {z} e =
      let s = smaller a.smallest b.smallest in
      let n = smaller-size 11 a.smallest b.smallest h.smallest_in k.smallest_in in
      let l = least (stored a.smallest) (stored b.smallest) in
      let p : z ≡ s = e ∙ l ∙ (λ i. smaller (smallest-is h i) (smallest-is k i)) in
      ap stored p
      ∙ to_z-of_z w32 s (fits-32 s 11 n (omega arith))

  largest-of : {z : ℤ} → z ≡ int_max (stored a.largest) (stored b.largest)
      → stored z ≡ larger a.largest b.largest
  largest-of {z} e =
      let s = larger a.largest b.largest in
      let n = larger-size 11 a.largest b.largest h.largest_in k.largest_in in
      let l = most (stored a.largest) (stored b.largest) in
      let p : z ≡ s = e ∙ l ∙ (λ i. larger (largest-is h i) (largest-is k i)) in
      ap stored p
      ∙ to_z-of_z w32 s (fits-32 s 11 n (omega arith))

  made : {y z : ℤ} → (a.edges ≡ 0 → ⊥) → (b.edges ≡ 0 → ⊥)
      → y ≡ int_min (stored a.smallest) (stored b.smallest)
      → z ≡ int_max (stored a.largest) (stored b.largest)
      → report (a.edges + b.edges) (stored (stored a.sum +ℤ stored b.sum)) (stored y) (stored z) ≡ joined a b
  unfolding joined
  made n m e g =
      rw (ne_eqb a.edges 0 n, ne_eqb b.edges 0 m)
      (λ i. report (a.edges + b.edges) ((to_z-of_z w32 _ sum_fits ∙ both-sum) i) (smallest-of e i) (largest-of g i))

pub returns-then-a-eq0 : goal.returns-then-a-eq0
unfolding joined
returns-then-a-eq0 c = rw c.if-a-eq0.true refl

pub returns-then-b-eq0 : goal.returns-then-b-eq0
unfolding joined
returns-then-b-eq0 c = rw (ne_eqb _ _ c.if-a-eq0.false, c.if-b-eq0.true) refl

pub overflow_add-result-2 : goal.overflow_add-result-2
overflow_add-result-2 c = sum_fits c.requires.report_of c.requires.report_of_2

pub returns : goal.returns
returns c =
    made c.requires.report_of c.requires.report_of_2 c.if-a-eq0.false c.if-b-eq0.false
    c.min.ensures.value c.max.ensures.value
