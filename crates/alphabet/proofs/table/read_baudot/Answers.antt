-- `table::read_baudot` meets its contract: the two codes that select a shift, and the table for any other.
use mathlib.Core.Path.{◌∙◌, sym, ap}
use Prim.Native.Nat.{ℕ}
use borrow.Author.Tests.{eqb-true}
use Rattle.alphabet.specs.Baudot.{read_baudot}
use Rattle.alphabet.proofs.Packing.{reads-shift, reads-letters-code, reads-figures-code}
use Rattle.alphabet.proofs.table.read_baudot.Goals as goal

pub returns-then-eq : goal.returns-then-eq
returns-then-eq c = reads-letters-code _ _ (eqb-true _ _ (sym c.eq.ensures ∙ c.if-eq.true))

pub returns-then-eq-2 : goal.returns-then-eq-2
returns-then-eq-2 c = reads-figures-code _ _ (eqb-true _ _ (sym c.eq-2.ensures ∙ c.if-eq-2.true))

pub returns : goal.returns
returns c =
    c.read_char.ensures
    ∙ ap (λ (n : ℕ). read_baudot n c.args.code.0) c.shift_of.ensures
    ∙ reads-shift c.args.shift c.args.code.0
