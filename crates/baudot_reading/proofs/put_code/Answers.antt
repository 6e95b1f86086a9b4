-- `reading::put_code` meets its contract: a code for letters, one for figures, any other.
use mathlib.Core.Path.{◌∙◌, sym}
use borrow.Author.Tests.{eqb-true}
use Rattle.alphabet.proofs.Packing.{reads-letters-code, reads-figures-code}
use Rattle.baudot_reading.proofs.ReadingRule.{got-character, got-shift, room-character}
use Rattle.baudot_reading.proofs.put_code.Goals as goal

pub returns-then-eq : goal.returns-then-eq
returns-then-eq c =
    let e = reads-letters-code c.args.taken.shift c.args.code.0
    (eqb-true _ _ (sym c.eq.ensures ∙ c.if-eq.true)) in
    let g = got-shift c.args.text.now c.args.taken.at c.args.taken.shift _ _ (sym e) in
    record { value = g.placed; text_after = g.stored }

pub returns-then-eq-2 : goal.returns-then-eq-2
returns-then-eq-2 c =
    let e = reads-figures-code c.args.taken.shift c.args.code.0
    (eqb-true _ _ (sym c.eq-else-eq.ensures ∙ c.if-eq-2.true)) in
    let g = got-shift c.args.text.now c.args.taken.at c.args.taken.shift _ _ (sym e) in
    record { value = g.placed; text_after = g.stored }

pub bounds-text-at : goal.bounds-text-at
bounds-text-at c =
    room-character c.args.text.now c.args.taken.at c.args.taken.shift _ _ (sym c.read_char.ensures)
    c.requires.code_in_bounds

pub returns-else-eq-2 : goal.returns-else-eq-2
returns-else-eq-2 c =
    let g = got-character c.args.text.now c.args.taken.at c.args.taken.shift _ _ (sym c.read_char.ensures) in
    record { value = g.placed; text_after = g.stored }
