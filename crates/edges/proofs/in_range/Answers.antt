-- `in_range` meets its contract: where none waits, in a measured frame, elsewhere.
use mathlib.Core.Path.{◌≡◌, ◌∙◌, sym}
use Rattle.std.proofs.Common.{arith}
use Rattle.std.proofs.lemmas.Bool.Decides.{nat_tests}
use Rattle.alphabet.specs.Modes.{element_of}
use Rattle.edges.proofs.Range.{is-measured, is-unmeasured, in-outside, in-unmeasured, in-measured, none_in}
use Rattle.edges.proofs.in_range.Goals as goal
use Rattle.edges.proofs.in_range.Goals.{then-f-ge2, else-f-ge2}

pub returns-then-is_none : goal.returns-then-is_none
returns-then-is_none c =
    c.if-is_none.true ∙ sym (none_in c.args.mode c.args.f c.args.w (sym c.is_none.ensures ∙ c.if-is_none.true))

pub returns-then-element-ne0 : goal.returns-then-element-ne0
returns-then-element-ne0 c =
    elim c.if-f-ge2.branch [
      | then-f-ge2 w ↦
          let n : element_of c.args.mode ≡ 0 → ⊥ = grind (arith, nat_tests) in
          c.waiting_in.ensures
          ∙ sym (in-measured c.args.mode c.args.f c.args.w (is-measured c.args.mode n) w.if-f-ge2.true)
      | else-f-ge2 w ↦ grind (arith, nat_tests)
    ]

pub returns-else-element-ne0 : goal.returns-else-element-ne0
returns-else-element-ne0 c =
    let none = c.if-element-ne0.false ∙ sym c.if-is_none.false ∙ c.is_none.ensures in
    elim c.if-f-ge2.branch [
      | then-f-ge2 w ↦
          let e : element_of c.args.mode ≡ 0 = grind (arith, nat_tests) in
          none ∙ sym (in-unmeasured c.args.mode c.args.f c.args.w (is-unmeasured c.args.mode e))
      | else-f-ge2 w ↦ none ∙ sym (in-outside c.args.mode c.args.f c.args.w w.if-f-ge2.false)
    ]
