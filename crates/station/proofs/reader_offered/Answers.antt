-- `reader_offered` meets its contract.
use mathlib.Core.Path.{◌∙◌, sym}
use Rattle.station.proofs.Laws.{del-any}
use Rattle.station.proofs.reader_offered.Goals as goal

pub returns-in-Baudot : goal.returns-in-Baudot
returns-in-Baudot c =
    simp (c.in-Baudot.is, sym (del-any c.args.text.now) ∙ sym c.contains.ensures.value ∙ c.if-contains.true)

pub returns-in_default : goal.returns-in_default
returns-in_default c =
    simp (c.in-Baudot.is, sym (del-any c.args.text.now) ∙ sym c.contains.ensures.value ∙ c.if-contains.false)
