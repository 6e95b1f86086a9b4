-- `ahead_ms` meets its contract.
use mathlib.Core.Path.{◌≡◌, ◌∙◌, refl, ap}
use Prim.Native.Nat.{◌≤◌}
use native.Mathlib.Omega.{arith}
use lib.ListN.{length}
use borrow.Author.Tests.{ne_eqb}
use Rattle.alphabet.specs.declared.Mode.{Mode}
use Rattle.alphabet.specs.declared.Mode.TheVariants.{Baudot45, Baudot50, Dtmf, Edt}
use Rattle.alphabet.specs.Modes.{preamble_of}
use Rattle.burst.specs.Line.{part_ms}
use Rattle.half_duplex.specs.declared.Core.{Core}
use Rattle.half_duplex.specs.Core.{mode_in}
use Rattle.preview.proofs.ahead_ms.Goals as goal

-- no preamble is longer
preamble-300 : (mode : Mode) → preamble_of mode ≤ 300
preamble-300 Baudot45 = omega arith
preamble-300 Baudot50 = omega arith
preamble-300 Dtmf = omega arith
preamble-300 Edt = omega arith

pub overflow_add-result : goal.overflow_add-result
overflow_add-result c =
    let core : Core = c.args.c in
    let preamble-is : c.preamble.result ≡ preamble_of (mode_in core) = c.preamble.ensures
    ∙ ap preamble_of c.of-mode.ensures in
    let e = preamble-is in
    let h = preamble-300 (mode_in core) in
    omega arith

pub returns-then-c-eq-IDLE : goal.returns-then-c-eq-IDLE
returns-then-c-eq-IDLE c =
    let core : Core = c.args.c in
    let preamble-is : c.preamble.result ≡ preamble_of (mode_in core) = c.preamble.ensures
    ∙ ap preamble_of c.of-mode.ensures in
    rw (c.if-c-eq-IDLE.true, preamble-is) refl

pub overflow_sub-result-else-c-eq-IDLE : goal.overflow_sub-result-else-c-eq-IDLE
overflow_sub-result-else-c-eq-IDLE c =
    let part-core : Core = c.args.c in
    let part-is : c.part_ms.result ≡ length (part_ms (mode_in part-core) part-core.line) = c.part_ms.ensures
    ∙ ap (λ (mode : Mode). length (part_ms mode part-core.line)) c.of-mode.ensures in
    let e = part-is in
    let h = c.requires.line-in.at_in in
    omega arith

pub returns-else-c-eq-IDLE : goal.returns-else-c-eq-IDLE
returns-else-c-eq-IDLE c =
    let part-core : Core = c.args.c in
    let part-is : c.part_ms.result ≡ length (part_ms (mode_in part-core) part-core.line) = c.part_ms.ensures
    ∙ ap (λ (mode : Mode). length (part_ms mode part-core.line)) c.of-mode.ensures in
    rw (ne_eqb _ _ c.if-c-eq-IDLE.false, part-is) refl
