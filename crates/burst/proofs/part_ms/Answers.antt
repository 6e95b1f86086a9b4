-- `part_ms` meets its contract.
use Rattle.burst.proofs.Laws.{code-ms}
use mathlib.Core.Path.{◌∙◌, sym}
use Rattle.burst.specs.Line.{part_ms}
use lib.ListN.{length-replicate}
use native.Mathlib.Omega.{arith}
use borrow.Author.Tests.{ne_eqb}
use Rattle.burst.proofs.part_ms.Goals as goal

pub returns-in-0 : goal.returns-in-0
unfolding part_ms
returns-in-0 c = simp c.in-0.is

pub returns-in-2 : goal.returns-in-2
returns-in-2 c = c.duration.ensures ∙ sym (code-ms _ _ c.in-2.is)

pub returns-in_default : goal.returns-in_default
unfolding part_ms
returns-in_default c =
    simp (
      ne_eqb c.args.l.part 0 (λ e. omega arith),
      ne_eqb c.args.l.part 2 (λ e. omega arith),
      c.preamble.ensures,
      length-replicate,
    )
