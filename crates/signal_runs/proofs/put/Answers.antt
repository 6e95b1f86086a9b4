-- `put` meets its contract: the preamble, or a code.
use Rattle.std.proofs.Common.{◌∙◌, arith}
use Rattle.burst.proofs.Laws.{code-ms}
use Rattle.signal_runs.proofs.Elements.{code-part, preamble-levels, code-levels}
use Rattle.signal_runs.proofs.put.Goals as goal

pub put_code-requires-clause-sent_in_bounds : goal.put_code-requires-clause-sent_in_bounds
put_code-requires-clause-sent_in_bounds c =
    let m = code-ms c.args.mode c.args.l (code-part c.args.l c.requires.line_in.part_in c.requires.l_value
    c.if-l-eq-PREAMBLE.false) in
    let f = c.requires.sent_in_bounds in
    omega arith

pub returns-then-l-eq-PREAMBLE : goal.returns-then-l-eq-PREAMBLE
returns-then-l-eq-PREAMBLE c =
    c.fill.ensures ∙ preamble-levels c.args.mode c.args.l _ c.requires.sent_in_bounds c.if-l-eq-PREAMBLE.true

pub returns-else-l-eq-PREAMBLE : goal.returns-else-l-eq-PREAMBLE
returns-else-l-eq-PREAMBLE c =
    c.put_code.ensures
    ∙ code-levels c.args.mode c.args.l _ c.requires.sent_in_bounds
    (code-part c.args.l c.requires.line_in.part_in c.requires.l_value c.if-l-eq-PREAMBLE.false)
