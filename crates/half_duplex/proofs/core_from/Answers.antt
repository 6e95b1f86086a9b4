-- `core_from` meets its contract.
use mathlib.Core.Path.{sym, subst}
use Rattle.alphabet.specs.declared.Mode.{Mode}
use Rattle.burst.specs.code.Bounds.{LineIn}
use Rattle.half_duplex.proofs.core_from.Goals as goal

pub line_after-requires : goal.line_after-requires
line_after-requires c =
    subst (λ (m : Mode). LineIn m c.args.l.line) (sym c.of.ensures) c.requires.line_in

pub returns : goal.returns
returns c =
    simp (
      c.line_after.ensures,
      c.of.ensures,
      c.inhibited_after.ensures,
      c.silence_after.ensures,
      c.is_silent.ensures,
      c.waiting_after.ensures,
      c.is_inhibited-deaf.ensures,
      c.requires.reader_value,
    )
