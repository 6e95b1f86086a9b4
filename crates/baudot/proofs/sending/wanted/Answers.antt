-- `wanted` meets its contract: the shift behind what is wanted, if anything is.
use mathlib.Core.Path.{◌∙◌, sym}
use Rattle.baudot.proofs.SendingRule.{wants-no, behind-wanted}
use Rattle.baudot.proofs.sending.wanted.Goals as goal

pub returns-then-wants_shift : goal.returns-then-wants_shift
returns-then-wants_shift c =
    c.shift_behind.ensures ∙ behind-wanted _ _ c.requires.running (sym c.if-wants_shift.ensures)

pub returns-else-wants_shift : goal.returns-else-wants_shift
returns-else-wants_shift c =
    sym (wants-no _ _ c.requires.running (sym c.if-wants_shift.ensures))
