-- `opened` meets its contract.
use mathlib.Core.Path.{◌≡◌, ◌∙◌, refl, sym, ap}
use native.Mathlib.Omega.{arith}
use Rattle.alphabet.specs.declared.Alphabet.{Alphabet}
use Rattle.alphabet.specs.Modes.{alphabet_of}
use Rattle.burst.specs.Line.{is_opening}
use Rattle.burst.proofs.Range.{opening-in}
use Rattle.preview.proofs.opened.Goals as goal

pub returns-then-not-is_opening : goal.returns-then-not-is_opening
returns-then-not-is_opening c =
    let opening : is_opening (alphabet_of c.args.mode) c.args.l ≡ c.is_opening.result =
    sym (ap (λ (a : Alphabet). is_opening a c.args.l) c.alphabet.ensures) ∙ sym c.is_opening.ensures in
    let e = opening ∙ c.if-not-is_opening.true in
    (c.requires, λ cs. rw e (omega arith))

pub returns : goal.returns
returns c =
    let opening : is_opening (alphabet_of c.args.mode) c.args.l ≡ c.is_opening.result =
    sym (ap (λ (a : Alphabet). is_opening a c.args.l) c.alphabet.ensures) ∙ sym c.is_opening.ensures in
    let e = opening ∙ c.if-not-is_opening.false in
    rw (c.whole_opening-w.ensures, e)
    (record { shift_in = opening-in c.args.s c.requires.shift_in; count_in = omega arith }, λ cs. refl)
