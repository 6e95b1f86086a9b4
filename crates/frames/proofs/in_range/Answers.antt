-- `in_range` meets its contract.
use mathlib.Core.Path.{◌∙◌}
use Prim.Native.Nat.{◌+◌}
use native.Mathlib.Omega.{arith}
use borrow.Author.Tests.{le-leb, lt-leb}
use Rattle.frames.specs.Samples.{samples_of}
use Rattle.frames.specs.Range.{last_ms}
use Rattle.frames.proofs.Range.{last-is, last-few}
use Rattle.frames.proofs.in_range.Goals as goal

pub overflow_add-last_sample : goal.overflow_add-last_sample
overflow_add-last_sample c =
    let mode = c.args.mode in
    let l = c.last_sample.ensures ∙ last-is mode in
    let n = last-few mode in
    omega arith

pub returns-then-f-last_sample : goal.returns-then-f-last_sample
returns-then-f-last_sample c =
    let l = c.last_sample.ensures ∙ last-is c.args.mode in
    simp (
      le-leb c.args.f.place (last_ms (samples_of c.args.mode) + 1) (omega (arith, c.if-f-last_sample.true)),
      c.frame_codes.ensures,
    )

pub returns-else-f-last_sample : goal.returns-else-f-last_sample
returns-else-f-last_sample c =
    let l = c.last_sample.ensures ∙ last-is c.args.mode in
    let n = lt-leb c.args.f.place (last_ms (samples_of c.args.mode) + 1) (omega (arith, c.if-f-last_sample.false)) in
    simp (l, n)
