-- Document 02, #106: how long a text takes to type out, told before it is offered.
use Rattle.std.specs.Prelude.{ℕ, ◌<◌, ◌≡◌, Bool, true, false, not, ◌&&◌, List, eqb, replicate}
use Rattle.signal.specs.Signal.{quiet}
use Rattle.burst.specs.Line.{in_burst}
use Rattle.station.specs.declared.Station.{Station}
use Rattle.station.specs.declared.Measured.{Measured}
use Rattle.station.specs.Station.{offered_to, station_after}
use Rattle.station.specs.Measured.{station_of}
use Rattle.station.specs.Entries.{offer_answer}

-- A station in no burst and with nothing waiting.
abbrev pub is_idle : Station → Bool
is_idle s = not (in_burst s.core.line) && eqb s.core.waiting 0

-- So many ms in which nothing is heard.
abbrev pub quiet_for : ℕ → List ℕ
quiet_for n = replicate n quiet

-- The station becomes idle in n ms, if the line stays quiet: it is idle after n of them, and after no fewer.
pub record IdleIn (s : Station) (n : ℕ) : Type 0 where
  pub idle : is_idle (station_after s (quiet_for n)) ≡ true
  pub first : (k : ℕ) → k < n → is_idle (station_after s (quiet_for k)) ≡ false

-- A preview: the answer is the offer's; if that is 0, the ms are those in which a copy of the station that was offered
-- the text becomes idle, and else 0.
pub record Previews (x : Measured) (text : List ℕ) (answer ms : ℕ) : Type 0 where
  pub as_offered : answer ≡ offer_answer x text
  pub idle-in : offer_answer x text ≡ 0 → IdleIn (offered_to (station_of x) text) ms
  pub refused : (offer_answer x text ≡ 0 → ⊥) → ms ≡ 0
