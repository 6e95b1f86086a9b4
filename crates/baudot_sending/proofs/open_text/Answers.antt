-- `open_text` meets its contract: running; fresh, and something is sent; fresh, and nothing is.
use mathlib.Core.Path.{sym}
use native.Mathlib.Omega.{arith}
use borrow.Author.Tests.{eqb-true, eqb-false}
use Rattle.baudot_sending.proofs.OpeningRule.{open-running, open-fresh, open_none}
use Rattle.baudot_sending.proofs.open_text.Goals as goal

pub returns-then-sender-ne0 : goal.returns-then-sender-ne0
returns-then-sender-ne0 c = open-running _ _ c.requires.sender_in c.if-sender-ne0.true

pub returns-then-is_empty : goal.returns-then-is_empty
returns-then-is_empty c =
    open_none _ c.if-sender-ne0.false _ _ c.first_code.ensures _ c.left_from-rest.ensures
    (eqb-true _ _ (sym c.if-is_empty.ensures))

pub returns : goal.returns
returns c =
    let n = eqb-false _ _ (sym c.if-is_empty.ensures) in
    open-fresh _ c.if-sender-ne0.false _ _ c.first_code.ensures _ c.left_from-rest.ensures (omega (arith, n))
    c.args.text.chars
