-- `next_code` meets its contract: ms of the part are left, a shift code opens the burst, none waits, a code begins.
use mathlib.Core.Path.{◌≡◌, ◌∙◌, sym, ap, subst}
use mathlib.Core.Bool.{true}
use native.Mathlib.Omega.{arith}
use Rattle.alphabet.specs.declared.Alphabet.{Alphabet}
use Rattle.alphabet.specs.Modes.{alphabet_of}
use Rattle.burst.specs.Line.{is_opening, is_over}
use Rattle.burst.specs.code.Bounds.{SendsIn}
use Rattle.burst.proofs.Range.{sends-in}
use Rattle.burst.proofs.Laws.{not-over, opening-next, none-waits, code-next}
use Rattle.burst.proofs.next_code.Goals as goal

pub returns-then-not-is_over : goal.returns-then-not-is_over
returns-then-not-is_over c =
    sym (not-over _ _ _ _ _ (sym c.is_over.ensures ∙ c.if-not-is_over.true))

pub returns-then-is_opening : goal.returns-then-is_opening
returns-then-is_opening c =
    let over : is_over c.args.mode c.args.l ≡ true = sym c.is_over.ensures ∙ c.if-not-is_over.false in
    let opening : is_opening (alphabet_of c.args.mode) c.args.l ≡ c.is_opening.result =
    sym (ap (λ (a : Alphabet). is_opening a c.args.l) c.alphabet-a.ensures) ∙ sym c.is_opening.ensures in
    c.opening_begins.ensures
    ∙ sym (opening-next _ _ _ _ _ (over) (opening ∙ c.if-is_opening.true))

pub returns-then-waiting-eq0 : goal.returns-then-waiting-eq0
returns-then-waiting-eq0 c =
    let over : is_over c.args.mode c.args.l ≡ true = sym c.is_over.ensures ∙ c.if-not-is_over.false in
    let opening : is_opening (alphabet_of c.args.mode) c.args.l ≡ c.is_opening.result =
    sym (ap (λ (a : Alphabet). is_opening a c.args.l) c.alphabet-a.ensures) ∙ sym c.is_opening.ensures in
    sym (none-waits _ _ _ _ _ (over) (opening ∙ c.if-is_opening.false) c.if-waiting-eq0.true)

pub lookup-requires : goal.lookup-requires
lookup-requires c =
    let n = c.if-waiting-eq0.false in c.requires.front_bound (omega arith)

pub code_begins-requires : goal.code_begins-requires
code_begins-requires c =
    let n = c.if-waiting-eq0.false in
    record {
      sender_in = c.requires.sender_in;
      sends_in = subst (SendsIn _) (sym c.lookup.ensures)
          (sends-in _ _ (c.requires.front_bound (omega arith)));
    }

pub returns : goal.returns
returns c =
    let over : is_over c.args.mode c.args.l ≡ true = sym c.is_over.ensures ∙ c.if-not-is_over.false in
    let opening : is_opening (alphabet_of c.args.mode) c.args.l ≡ c.is_opening.result =
    sym (ap (λ (a : Alphabet). is_opening a c.args.l) c.alphabet-a.ensures) ∙ sym c.is_opening.ensures in
    let e = code-next _ _ _ _ _ (over) (opening ∙ c.if-is_opening.false) c.if-waiting-eq0.false in
    c.code_begins.ensures
    ∙ simp (c.lookup.ensures, c.alphabet-a.ensures, opening ∙ c.if-is_opening.false) (sym e)
