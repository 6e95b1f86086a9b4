-- `level_on` meets its contract: behind the part, in the preamble, in a code.
use mathlib.Core.Path.{◌≡◌, ◌∙◌, sym}
use native.Mathlib.Omega.{arith}
use Rattle.burst.proofs.Laws.{level-over, level-preamble, code-part, level-code, code-ms}
use Rattle.signal.proofs.Lengths.{within-longest}
use borrow.Author.Rules.{rules}
use Rattle.burst.proofs.level_on.Goals as goal

pub returns-then-part_ms-l : goal.returns-then-part_ms-l
returns-then-part_ms-l c = sym (level-over _ _ (omega (arith, c.if-part_ms-l.true)))

pub returns-then-l-eq-PREAMBLE : goal.returns-then-l-eq-PREAMBLE
returns-then-l-eq-PREAMBLE c =
    sym (level-preamble _ _ c.if-l-eq-PREAMBLE.true (omega (arith, c.if-part_ms-l.false)))

pub level-requires : goal.level-requires
level-requires c =
    let in_code : c.args.l.part ≡ 2 = let h = c.if-part_ms-l.false in
    code-part c.args.mode c.args.l c.requires.part_in c.if-l-eq-PREAMBLE.false (omega (arith, h)) in
    let n = code-ms c.args.mode c.args.l (in_code) in
    let w = within-longest c.args.mode c.args.l.code.0 (search rules) in
    record { code_bound = c.requires.code-in; at_bound = omega (arith, c.if-part_ms-l.false) }

pub returns-else-l-eq-PREAMBLE : goal.returns-else-l-eq-PREAMBLE
returns-else-l-eq-PREAMBLE c =
    let in_code : c.args.l.part ≡ 2 = let h = c.if-part_ms-l.false in
    code-part c.args.mode c.args.l c.requires.part_in c.if-l-eq-PREAMBLE.false (omega (arith, h)) in
    c.level.ensures ∙ sym (level-code _ _ (in_code))
