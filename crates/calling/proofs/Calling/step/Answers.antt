-- `step` meets its contract. What is left to show: while the timetable runs, the count and what was heard last stay.
use mathlib.Core.Path.{◌∙◌, sym}
use Rattle.calling.proofs.OneMs.{does-timetable}
use Rattle.calling.proofs.Calling.step.Goals as goal

pub returns-clause-state : goal.returns-clause-state
returns-clause-state c =
    let over = sym c.pause_over.ensures ∙ c.if-not-pause_over.false in
    let d = does-timetable c.args.self.now c.args.heard c.if-self-ne0.false c.if-heard-ne-NONE.false over in
    cc (d.leaves, c.if-self-ne0.false, c.next-self.ensures)
