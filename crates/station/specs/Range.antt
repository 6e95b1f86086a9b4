-- Document 01, question 1: are the station's numbers in range?
use Rattle.std.specs.Prelude.{Bool, ◌&&◌}
use Rattle.edges.specs.Range.{edges_in}
use Rattle.half_duplex.specs.Core.{mode_in}
use Rattle.half_duplex.specs.Range.{core_in}
use Rattle.queue.specs.Queue.{in_range as queue_in}
use Rattle.station.specs.declared.Station.{Station}
use Rattle.station.specs.declared.Measured.{Measured}
use Rattle.station.specs.Station.{queue_of, alphabet_of_station}
use Rattle.station.specs.Measured.{station_of}

-- Those of its core; waiting at most 256, and each a character that sends something.
unfoldable pub in_range : Station → Bool
in_range s = core_in s.core && queue_in (alphabet_of_station s) (queue_of s)

-- Then, document 02, #111, the edges that wait.
unfoldable pub measured_in : Measured → Bool
measured_in x = in_range (station_of x) && edges_in (mode_in x.core) x.core.reader.frame x.edges
