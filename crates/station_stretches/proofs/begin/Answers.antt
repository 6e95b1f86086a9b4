-- `begin` meets its contract.
use mathlib.Core.Path.{◌≡◌, ◌∙◌, sym, ap, subst}
use mathlib.Core.List.{List}
use Prim.Native.Nat.{ℕ, ◌<◌}
use native.Mathlib.Omega.{arith}
use lib.ListN.{length, get_or}
use Rattle.alphabet.specs.declared.Mode.{Mode}
use Rattle.burst.specs.declared.OnLine.{OnLine}
use Rattle.burst.specs.Line.{part_ms}
use Rattle.half_duplex.specs.Core.{mode_in, settled}
use Rattle.burst.proofs.Range.{LoadedIn}
use Rattle.half_duplex.proofs.Range.{settled-in}
use Rattle.station_stretches.proofs.Joining.{loaded-sends, begin-stretch}
use Rattle.station_stretches.proofs.begin.Goals as goal

pub step-requires : goal.step-requires
step-requires c =
    let j = subst (LoadedIn (mode_in c.args.c)) (sym c.settle-l.ensures)
    (settled-in c.args.c c.args.front.0 c.requires.core_in c.requires.front_bound) in
    record {
      core_in = c.requires.core_in;
      line_in = j.line-in;
      i_in_bounds = c.requires.i_in_bounds;
      i_in_bounds_2 = omega arith;
      n_in_bounds = c.requires.n_in_bounds;
    }

pub returns-then-ms-l : goal.returns-then-ms-l
returns-then-ms-l c =
    λ (chars : List ℕ) (e : get_or chars 0 0 ≡ c.args.front.0).
    c.step.ensures chars (c.settle-l.ensures ∙ sym (ap (settled c.args.c) e))

pub send-requires : goal.send-requires
send-requires c =
    let line : OnLine = c.settle-l.result.line in
    let mode : Mode = mode_in c.args.c in
    let ms = c.part_ms-ms.ensures ∙ ap (λ (d : Mode). length (part_ms d line)) c.of-mode.ensures in
    let more : line.at < length (part_ms mode line) = omega arith in
    let s = loaded-sends _ _ c.requires.core_in c.requires.front_bound _ c.settle-l.ensures more _ c.loaded.ensures
    in
    let left = s.left in
    record {
      core_in = s.core-in;
      mode_value = c.of-mode.ensures ∙ s.mode_is;
      le_left = omega arith;
      left_value = omega arith;
      i_in_bounds = c.requires.i_in_bounds;
      heard_in_bounds = c.requires.heard_in_bounds;
    }

pub returns-else-ms-l : goal.returns-else-ms-l
returns-else-ms-l c =
    let line : OnLine = c.settle-l.result.line in
    let mode : Mode = mode_in c.args.c in
    let ms = c.part_ms-ms.ensures ∙ ap (λ (d : Mode). length (part_ms d line)) c.of-mode.ensures in
    let more : line.at < length (part_ms mode line) = omega arith in
    λ (chars : List ℕ) (e : get_or chars 0 0 ≡ c.args.front.0).
    begin-stretch _ _ chars _ _ _ _ _ (c.settle-l.ensures ∙ sym (ap (settled c.args.c) e))
    more _ c.loaded.ensures _ _ _ (c.send.ensures _ _)
