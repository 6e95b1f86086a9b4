use Rattle.std.proofs.Common.{◌∙◌, refl, sym, ap, ◌≤◌, arith, rules}
use native.Mathlib.Nat.{add-zero}
use Rattle.lists.specs.Tables.{tabulate}
use Rattle.signal_runs.specs.code.Levels.{element_at}
use Rattle.signal_runs.proofs.Elements.{element-few, ends-later, framing-turn}
use Rattle.signal_runs.proofs.put_frame.Goals as goal

pub loop-i-init : goal.loop-i-init
unfolding tabulate
loop-i-init c =
    record {
      within = search rules;
      written = refl;
      element = λ l. c.element_at-j.ensures ∙ ap (element_at c.args.mode) (sym (add-zero c.args.at));
    }

pub overflow_cast-j : goal.overflow_cast-j
overflow_cast-j c =
    let few = element-few _ _ _ _ _ _ c.loop-i.invariant c.loop-i-test.true c.requires.framed (omega arith) in
    omega arith

pub frame_level-level-requires : goal.frame_level-level-requires
frame_level-level-requires c =
    element-few _ _ _ _ _ _ c.loop-i.invariant c.loop-i-test.true c.requires.framed (omega arith)

pub overflow_sub-element_end : goal.overflow_sub-element_end
overflow_sub-element_end c =
    let on = ends-later _ _ _ _ _ _ c.loop-i.invariant c.loop-i-test.true _ c.run_end-last.ensures in
    omega arith

pub slice_bounds-fill-count : goal.slice_bounds-fill-count
slice_bounds-fill-count c =
    let on = ends-later _ _ _ _ _ _ c.loop-i.invariant c.loop-i-test.true _ c.run_end-last.ensures in
    omega arith

pub slice_bounds-fill-start : goal.slice_bounds-fill-start
slice_bounds-fill-start c =
    let on = ends-later _ _ _ _ _ _ c.loop-i.invariant c.loop-i-test.true _ c.run_end-last.ensures in
    let low : c.loop-i.i ≤ c.min-end.result = omega arith in
    search (rules, low)

pub loop-i-smaller : goal.loop-i-smaller
loop-i-smaller c =
    let on = ends-later _ _ _ _ _ _ c.loop-i.invariant c.loop-i-test.true _ c.run_end-last.ensures in
    omega arith

pub loop-i-preserved : goal.loop-i-preserved
loop-i-preserved c =
    let on = ends-later _ _ _ _ _ _ c.loop-i.invariant c.loop-i-test.true _ c.run_end-last.ensures in
    framing-turn _ _ _ _ _ _ c.loop-i.invariant c.loop-i-test.true _ c.run_end-last.ensures _ (omega arith)
    (omega arith) (omega arith) (λ l. omega arith) _ c.frame_level-level.ensures _ c.fill.ensures
