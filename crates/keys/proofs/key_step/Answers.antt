-- `key_step` meets its contract: quiet needed, quiet heard, a key.
use mathlib.Core.Path.{sym}
use borrow.Author.Tests.{ne_eqb}
use Rattle.keys.specs.Keys.{key_step}
use Rattle.keys.proofs.key_step.Goals as goal

pub returns-then-k-ne0 : goal.returns-then-k-ne0
unfolding key_step
returns-then-k-ne0 c =
    simp (c.needs.ensures, c.needed_after.ensures, ne_eqb _ _ c.if-k-ne0.true)

pub returns-then-heard-eq0 : goal.returns-then-heard-eq0
unfolding key_step
returns-then-heard-eq0 c =
    simp (c.needs-then-heard-eq0.ensures, c.if-k-ne0.false, c.if-heard-eq0.true)

pub returns-then-ms-eq-KEY_MS : goal.returns-then-ms-eq-KEY_MS
unfolding key_step
returns-then-ms-eq-KEY_MS c =
    simp (
      c.needs-then-ms-eq-KEY_MS.ensures,
      sym c.ms_after-ms.ensures,
      c.if-k-ne0.false,
      ne_eqb _ _ c.if-heard-eq0.false,
      c.if-ms-eq-KEY_MS.true,
    )

pub returns-else-ms-eq-KEY_MS : goal.returns-else-ms-eq-KEY_MS
unfolding key_step
returns-else-ms-eq-KEY_MS c =
    simp (
      sym c.ms_after-ms.ensures,
      c.if-k-ne0.false,
      ne_eqb _ _ c.if-heard-eq0.false,
      ne_eqb _ _ c.if-ms-eq-KEY_MS.false,
    )
