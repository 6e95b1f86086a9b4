-- Quiet, a key while quiet is needed, a key that does not count yet, and one that does.
use native.Mathlib.Omega.{arith}
use Rattle.keys_runs.proofs.Holding.{passes-as, quiet-left, held-quiet, held-still, held-row, held-count}
use Rattle.keys_runs.proofs.pass_held.Goals as goal

pub returns-then-level-eq0 : goal.returns-then-level-eq0
returns-then-level-eq0 c heard levels h t =
    passes-as heard c.args.k c.needing.ensures.keys c.needing.ensures.place
    (held-quiet heard levels c.args.k c.args.level c.args.end h t.same c.requires.to_lt_end c.if-level-eq0.true _
    (quiet-left _ _ _ c.up_to.ensures))

pub returns-then-k-ne0 : goal.returns-then-k-ne0
returns-then-k-ne0 c heard levels h t =
    passes-as heard c.args.k c.needing-then-k-ne0.ensures.keys c.needing-then-k-ne0.ensures.place
    (held-still heard levels c.args.k c.args.level c.args.end h t.same c.requires.to_lt_end c.if-level-eq0.false
    c.if-k-ne0.true)

pub returns-then-n-ms : goal.returns-then-n-ms
returns-then-n-ms c heard levels h t =
    let l = c.if-n-ms.true in
    held-row heard levels c.args.k c.args.level c.args.end h t.same c.requires.to_lt_end c.if-level-eq0.false
    c.if-k-ne0.false (omega arith) _ (omega arith)

pub returns : goal.returns
returns c heard levels h t =
    let l = c.if-n-ms.false in
    held-count heard levels c.args.k c.args.level c.args.end h t.same c.if-level-eq0.false c.if-k-ne0.false
    c.args.k.ranged.ms-in _ (omega arith) (omega arith)
