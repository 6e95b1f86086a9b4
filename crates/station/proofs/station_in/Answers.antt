-- `station_in` meets its contract.
use mathlib.Core.Path.{◌∙◌, sym}
use Rattle.station.specs.Range.{in_range}
use Rattle.station.proofs.station_in.Goals as goal

pub returns-then-in_range : goal.returns-then-in_range
unfolding in_range
returns-then-in_range c =
    simp (
      sym c.in_range.ensures ∙ c.if-in_range.true,
      c.in_range-then-in_range.ensures,
      c.alphabet.ensures,
      c.of.ensures,
    )

pub returns-else-in_range : goal.returns-else-in_range
unfolding in_range
returns-else-in_range c = simp (c.if-in_range.false, sym c.in_range.ensures ∙ c.if-in_range.false)
