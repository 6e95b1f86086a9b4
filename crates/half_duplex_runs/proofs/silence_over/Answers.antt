use Rattle.std.proofs.Common.{◌∙◌, sym, ap, ℕ, arith}
use Rattle.lists.specs.Lists.{all_at_most}
use Rattle.half_duplex_runs.proofs.Laws.{over-quiet, signal-few, signal-at, signal-none}
use Rattle.half_duplex_runs.proofs.silence_over.Goals as goal

pub returns-then-bound-eq0 : goal.returns-then-bound-eq0
returns-then-bound-eq0 c =
    c.silence_for.ensures
    ∙ over-quiet _ _ c.requires.silence_le_free_ms
    (ap (λ (m : ℕ). all_at_most m c.args.heard.now) (sym c.if-bound-eq0.true) ∙ c.requires.heard_value)

pub overflow_cast-result : goal.overflow_cast-result
overflow_cast-result c =
    let few = signal-few c.args.heard.now c.args.silence c.requires.silence_le_free_ms _ (sym c.in-Some.ensures) in
    omega arith

pub returns-in-Some : goal.returns-in-Some
returns-in-Some c = signal-at _ _ c.requires.silence_le_free_ms _ (sym c.in-Some.ensures)

pub returns-in-None : goal.returns-in-None
returns-in-None c =
    c.silence_for-in-None.ensures ∙ signal-none _ _ c.requires.silence_le_free_ms (sym c.in-None.ensures)
