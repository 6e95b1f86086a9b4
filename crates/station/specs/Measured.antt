-- Document 02, #111: a station and the edges of the frame that it reads, ms by ms.
use Rattle.std.specs.Prelude.{ℕ, cond, List}
use Rattle.lists.specs.Steps.{state_after, outputs}
use Rattle.edges.specs.declared.Edges.{Edges}
use Rattle.edges.specs.declared.Report.{Report}
use Rattle.edges.specs.Edges.{no_edge, no_edges, joined, edges_ms, counted_ms}
use Rattle.half_duplex.specs.Core.{mode_in, inhibited_in}
use Rattle.station.specs.declared.Station.{Station}
use Rattle.station.specs.declared.Measured.{Measured}
use Rattle.station.specs.Station.{station, front, fresh_station, station_ms}

-- What a host holds: a station, and the edges that wait in it.
abbrev pub measured : Station → Edges → Measured
measured s w = record { core = s.core; edges = w; chars = s.chars }

abbrev pub station_of : Measured → Station
station_of x = station x.core x.chars

abbrev pub fresh_measured : ℕ → Measured
fresh_measured mode = measured (fresh_station mode) no_edges

-- The edges that wait after a ms, and those that count in it. An inhibited ms drops a frame, and its edges with it.
unfoldable pub waiting_ms : Measured → ℕ → Edges
waiting_ms x heard =
    cond (inhibited_in x.core (front (station_of x))) no_edges
    (edges_ms (mode_in x.core) x.core.reader.frame x.edges heard)

unfoldable pub counted_in : Measured → ℕ → Report
counted_in x heard =
    cond (inhibited_in x.core (front (station_of x))) no_edge
    (counted_ms (mode_in x.core) x.core.reader.frame x.edges heard)

-- One ms. The edges never change what the station does.
unfoldable pub measured_ms : Measured → ℕ → Measured
measured_ms x heard = measured (station_ms (station_of x) heard) (waiting_ms x heard)

-- The ms of a list, one after the other; and a report with the edges that count in them.
abbrev pub measured_after : Measured → List ℕ → Measured
measured_after x heard = state_after measured_ms x heard

abbrev pub report_after : Measured → Report → List ℕ → Report
report_after x r heard = state_after joined r (outputs measured_ms counted_in x heard)
