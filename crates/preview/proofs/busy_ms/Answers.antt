-- `busy_ms` meets its contract.
-- ---- the moments of the walk
-- ---- what follows the part that is on the line
-- ---- the needs
use mathlib.Core.Path.{◌≡◌, ◌∙◌}
use mathlib.Core.Bool.{true}
use mathlib.Core.List.{List, ◌++◌}
use Prim.Native.Nat.{ℕ, ◌+◌, ◌<◌}
use native.Mathlib.Omega.{arith}
use Rattle.burst.specs.Line.{begun}
use Rattle.half_duplex.specs.Core.{mode_in}
use Rattle.preview.specs.code.Count.{chars_ms, behind_ms, some_ms}
use Rattle.preview.proofs.Lowers.{max-some}
use borrow.Author.Rules.{rules}
use Rattle.preview.proofs.busy_ms.Goals as goal

pub opened-first-requires : goal.opened-first-requires
opened-first-requires c = c.requires.core_in.sender-in

pub codes_in-behind-requires : goal.codes_in-behind-requires
codes_in-behind-requires c =
    let behind : (cs : List ℕ) → c.opened-first.result.ms + chars_ms c.of-mode.result c.opened-first.result.sender cs
    ≡ behind_ms (mode_in c.args.c) (begun true c.args.c.line) c.args.c.sender cs = λ cs. c.opened-first.ensures.1 cs
    ∙ (λ j. behind_ms (c.of-mode.ensures j) (c.begun.ensures j) c.args.c.sender cs) in
    let chars : List ℕ = c.args.own.now ++ c.args.text.now in
    let b = behind chars in
    record {
      text_value = c.requires.text_value;
      sender_in = c.opened-first.ensures.0;
      text_bound = omega arith;
    }

pub overflow_add-ahead_ms : goal.overflow_add-ahead_ms
overflow_add-ahead_ms c =
    let chars : List ℕ = c.args.own.now ++ c.args.text.now in
    let behind : (cs : List ℕ) → c.opened-first.result.ms + chars_ms c.of-mode.result c.opened-first.result.sender cs
    ≡ behind_ms (mode_in c.args.c) (begun true c.args.c.line) c.args.c.sender cs = λ cs. c.opened-first.ensures.1 cs
    ∙ (λ j. behind_ms (c.of-mode.ensures j) (c.begun.ensures j) c.args.c.sender cs) in
    let codes-are : c.codes_in-behind.result ≡ behind_ms (mode_in c.args.c) (begun true c.args.c.line) c.args.c.sender
    chars = c.codes_in-behind.ensures ∙ behind chars in
    let b = codes-are in
    let a : c.ahead_ms.result < 65_536 = search rules in
    omega arith

pub returns : goal.returns
returns c =
    let chars : List ℕ = c.args.own.now ++ c.args.text.now in
    let behind : (cs : List ℕ) → c.opened-first.result.ms + chars_ms c.of-mode.result c.opened-first.result.sender cs
    ≡ behind_ms (mode_in c.args.c) (begun true c.args.c.line) c.args.c.sender cs = λ cs. c.opened-first.ensures.1 cs
    ∙ (λ j. behind_ms (c.of-mode.ensures j) (c.begun.ensures j) c.args.c.sender cs) in
    let codes-are : c.codes_in-behind.result ≡ behind_ms (mode_in c.args.c) (begun true c.args.c.line) c.args.c.sender
    chars = c.codes_in-behind.ensures ∙ behind chars in
    c.max.ensures ∙ max-some _ ∙ (λ j. some_ms (c.ahead_ms.ensures j + codes-are j))
