-- `run` meets its contract. What is left to show: success writes the slice's front.
use mathlib.Core.Path.{◌∙◌, sym}
use Rattle.calling.proofs.Answers.{answer-0, accepted}
use Rattle.calling.proofs.Calling.run.Goals as goal

pub returns-clause-sent : goal.returns-clause-sent
returns-clause-sent c =
    let h = c.if-sent-tones.false in
    let range = sym c.in_range.ensures ∙ c.if-not-in_range.false in
    let tones = sym c.all_at_most.ensures ∙ c.if-not-all_at_most.false in
    let a = answer-0 _ _ _ range c.if-tones-gt-MOST_MS.false tones h in
    (accepted _ _ _ a h _ _ c.run_all.ensures.state c.run_all.ensures.sent).1
