-- A ms that is not inhibited goes to the reader; a station that only listens is never inhibited.
use mathlib.Core.Path.{◌≡◌, refl}
use mathlib.Core.Bool.{Bool, false, ◌&&◌}
use Prim.Native.Nat.{ℕ}
use lib.Dec.{ltb}
use lib.ListN.{length}
use Rattle.lists.proofs.Lists.{either}
use Rattle.alphabet.specs.declared.Mode.{Mode}
use Rattle.reader.specs.Reader.{hear}
use Rattle.burst.specs.declared.OnLine.{OnLine}
use Rattle.burst.specs.Line.{idle, in_burst, further, part_ms, is_over, front_is_next, begun, next_code, loaded}
use Rattle.burst.specs.Line.{one_gone, closed}
use Rattle.burst.specs.Rules.{may_begin}
use Rattle.half_duplex.specs.Core.{settled, core_from, inhibited_in}
use Rattle.station.specs.declared.Station.{Station}
use Rattle.station.specs.Station.{mode_of_station, front, station_ms, event_of}
use Rattle.station.specs.Listening.{Listens}

-- ---- not inhibited

pub ms-mode : (s : Station) (x : ℕ) → mode_of_station (station_ms s x) ≡ mode_of_station s
unfolding station_ms core_from
ms-mode s x = refl

module _ (s : Station) (x : ℕ) (free : inhibited_in s.core (front s) ≡ false) where
  pub ms-reader : (station_ms s x).core.reader ≡ (hear (mode_of_station s) s.core.reader x).reader
  unfolding station_ms core_from
  ms-reader = rw free refl

  pub ms-event : event_of s x ≡ (hear (mode_of_station s) s.core.reader x).event
  unfolding event_of
  ms-event = rw free refl

-- ---- a station that only listens

-- a line in no burst is in none when a ms of it has gone
gone-idle : (mode : Mode) (l : OnLine) → in_burst l ≡ false → in_burst (one_gone mode l) ≡ false
unfolding one_gone
gone-idle mode l e =
    either (λ (k : OnLine). in_burst k ≡ false) (ltb l.at (length (part_ms mode l))) (further l 1) l e e

closed-idle : (mode : Mode) (ends : Bool) (l : OnLine) → in_burst l ≡ false → in_burst (closed mode ends l) ≡ false
unfolding closed
closed-idle mode ends l e =
    either (λ (k : OnLine). in_burst k ≡ false) (front_is_next mode l && ends) idle l refl e

module _ (s : Station) (l : Listens s) where
  nothing-begins : settled s.core (front s) ≡ loaded s.core.line s.core.sender false
  unfolding settled may_begin begun next_code is_over
  nothing-begins = rw (l.none-waiting, l.no-burst) refl

  pub not-inhibited : inhibited_in s.core (front s) ≡ false
  not-inhibited = rw (nothing-begins, l.no-burst, l.none_to_come) refl

  pub still-listens : (x : ℕ) → Listens (station_ms s x)
  unfolding station_ms core_from
  still-listens x = record {
    no-burst = rw nothing-begins (closed-idle _ _ _ (gone-idle _ s.core.line l.no-burst));
    none-waiting = rw nothing-begins l.none-waiting;
    none_to_come = rw (nothing-begins, l.no-burst, l.none_to_come) refl;
  }
