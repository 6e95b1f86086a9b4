-- `baudot_ahead` meets its contract: the code that opens the burst, that of letters, or the one that is wanted.
use mathlib.Core.Path.{◌∙◌}
use borrow.Author.Tests.{eq-eqb, ne_eqb}
use Rattle.baudot.specs.Sending.{wanted}
use Rattle.burst.proofs.baudot_ahead.Goals as goal

pub returns-then-l-eq-PREAMBLE : goal.returns-then-l-eq-PREAMBLE
returns-then-l-eq-PREAMBLE c =
    c.opening_shift.ensures ∙ simp (eq-eqb _ _ c.if-l-eq-PREAMBLE.true)

pub returns-then-s-eq0 : goal.returns-then-s-eq0
unfolding wanted
returns-then-s-eq0 c = simp (ne_eqb _ _ c.if-l-eq-PREAMBLE.false, c.if-s-eq0.true)

pub returns-else-s-eq0 : goal.returns-else-s-eq0
returns-else-s-eq0 c =
    c.wanted.ensures ∙ simp (ne_eqb _ _ c.if-l-eq-PREAMBLE.false)
