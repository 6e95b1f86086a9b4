-- `in_range` meets its contract.
use mathlib.Core.Path.{◌∙◌, sym}
use Rattle.station.specs.Range.{measured_in}
use Rattle.station.proofs.Measured.in_range.Goals as goal

pub returns-then-station_in : goal.returns-then-station_in
unfolding measured_in
returns-then-station_in c =
    simp (sym c.station_in.ensures ∙ c.if-station_in.true, c.in_range.ensures, c.of.ensures)

pub returns-else-station_in : goal.returns-else-station_in
unfolding measured_in
returns-else-station_in c = simp (c.if-station_in.false, sym c.station_in.ensures ∙ c.if-station_in.false)
