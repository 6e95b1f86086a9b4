-- Quiet, or keys.
use mathlib.Core.Path.{◌∙◌, sym, ap}
use Prim.Native.Nat.{ℕ}
use Rattle.lists.specs.Lists.{all_at_most}
use Rattle.lists.proofs.Alikes.{alike-zeros, alike_at}
use Rattle.reader_runs.proofs.are_alike.Goals as goal

pub returns-then-bound-eq0 : goal.returns-then-bound-eq0
returns-then-bound-eq0 c e =
    alike-zeros _ (ap (λ (m : ℕ). all_at_most m c.args.heard.now) (sym c.if-bound-eq0.true) ∙ c.requires)

pub returns-then-matches : goal.returns-then-matches
returns-then-matches c e = alike_at _ _ c.requires (sym c.all_at_least.ensures ∙ e)
