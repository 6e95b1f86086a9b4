-- `put_opened` meets its contract: with a fresh sender's first shift code, and without.
use mathlib.Core.Path.{◌∙◌}
use native.Mathlib.Omega.{arith}
use Rattle.baudot_sending.proofs.OpeningRule.{all-length, placed-all, stored-none, stored-one}
use Rattle.baudot_sending.proofs.put_opened.Goals.{then-start-eq1, else-start-eq1}
use Rattle.baudot_sending.proofs.put_opened.Goals as goal

pub bounds-codes-0 : goal.bounds-codes-0
bounds-codes-0 c =
    omega (
      arith,
      c.requires.text_in_bounds,
      all-length c.args.text.bytes.now c.args.start c.requires.at_bound,
      c.if-start-eq1.true,
    )

pub put_from-requires-clause-text_in_bounds : goal.put_from-requires-clause-text_in_bounds
put_from-requires-clause-text_in_bounds c =
    omega (
      arith,
      c.requires.text_in_bounds,
      all-length c.args.text.bytes.now c.args.start c.requires.at_bound,
      c.if-start-eq1.auto.codes,
    )

pub returns-clause-value : goal.returns-clause-value
returns-clause-value c = placed-all _ _ c.requires.at_bound _ c.put_from.ensures.value

pub returns-clause-codes_after : goal.returns-clause-codes_after
returns-clause-codes_after c =
    c.put_from.ensures.codes_after
    ∙ (elim c.if-start-eq1.branch [
      | then-start-eq1 w ↦ rw w.codes-is (stored-one _ _ _ w.if-start-eq1.true _ w.shift_code.ensures)
      | else-start-eq1 w ↦ rw w.codes-is (stored-none _ _ c.requires.at_bound _ w.if-start-eq1.false)
    ])
