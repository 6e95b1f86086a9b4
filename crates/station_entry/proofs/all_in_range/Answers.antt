-- `all_in_range` meets its contract.
use mathlib.Core.Path.{◌∙◌, sym, ap}
use Prim.Native.Nat.{ℕ}
use Rattle.lists.specs.Lists.{all_at_most}
use Rattle.alphabet.specs.Modes.{highest_level}
use Rattle.station_entry.specs.code.Asking.{all_in}
use Rattle.station_entry.proofs.all_in_range.Goals as goal

pub returns-then-in_range : goal.returns-then-in_range
unfolding all_in
returns-then-in_range c =
    let highest = c.highest_level.ensures ∙ ap highest_level c.of.ensures in
    simp (sym c.in_range.ensures ∙ c.if-in_range.true)
    (c.all_at_most.ensures ∙ ap (λ (n : ℕ). all_at_most n c.args.heard.now) highest)

pub returns-else-in_range : goal.returns-else-in_range
unfolding all_in
returns-else-in_range c = let e = c.if-in_range.false in simp (e, sym c.in_range.ensures ∙ e)
