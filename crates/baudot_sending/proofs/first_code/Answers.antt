use mathlib.Core.Path.{◌∙◌, sym}
use native.Mathlib.Omega.{arith}
use Rattle.lists.proofs.Lists.{at-most-at}
use Rattle.baudot_sending.proofs.OpeningRule.{quiet-start, quiet-turn, quiet-silent, quiet-end}
use Rattle.baudot_sending.proofs.first_code.Goals as goal

pub loop-i-init : goal.loop-i-init
loop-i-init c = quiet-start _

pub sends_code-requires : goal.sends_code-requires
sends_code-requires c =
    let t = c.args.text in
    omega (arith, at-most-at 0x7f t.bytes.now t.chars c.loop-i.i c.loop-i-test.true)

pub returns-then-sends_code : goal.returns-then-sends_code
returns-then-sends_code c =
    quiet-silent _ _ c.loop-i.invariant (λ _. sym c.sends_code.ensures ∙ c.if-sends_code.true)

pub loop-i-preserved : goal.loop-i-preserved
loop-i-preserved c =
    quiet-turn _ _ c.loop-i.invariant c.loop-i-test.true (sym c.sends_code.ensures ∙ c.if-sends_code.false)

pub returns : goal.returns
returns c = quiet-end _ _ c.loop-i.invariant c.loop-i-test.false
