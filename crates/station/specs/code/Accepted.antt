-- What an offer that succeeds has, beside the edges that wait.
use Rattle.std.specs.Prelude.{◌≡◌, true, List, ℕ}
use Rattle.alphabet.specs.Normal.{all_chars}
use Rattle.queue.specs.Queue.{room}
use Rattle.station.specs.declared.Station.{Station}
use Rattle.station.specs.Station.{alphabet_of_station, queue_of}
use Rattle.station.specs.Range.{in_range}

pub record Accepted (s : Station) (text : List ℕ) : Type 0 where
  pub ranged : in_range s ≡ true
  pub chars : all_chars text ≡ true
  pub space : room (alphabet_of_station s) (queue_of s) text ≡ true
