-- Document 01, "The station's turn": on a quiet line every station in range becomes idle: no burst, nothing waiting.
use Rattle.std.specs.Prelude.{ℕ, ◌≤◌, true, ◌≡◌, length}
use Rattle.station.specs.declared.Station.{Station}
use Rattle.station.specs.Station.{station_after}
use Rattle.station.specs.Range.{in_range}
use Rattle.preview.specs.Preview.{is_idle, quiet_for, IdleIn}

-- It becomes idle in a number of ms, and is so after any more.
pub record Becomes (s : Station) : Type 0 where
  pub ms : ℕ
  pub idle-in : IdleIn s ms
  pub stays : (n : ℕ) → ms ≤ n → is_idle (station_after s (quiet_for n)) ≡ true

-- Each station in range does (with its 256 places), also one that no list of calls gives. How many ms at most:
-- `Ceiling.antt`.
abbrev pub BecomesIdle : Type 0
BecomesIdle = (s : Station) → length s.chars ≡ 256 → in_range s ≡ true → Becomes s

-- It is the only number: what a preview answers is fixed by its contract.
abbrev pub InOneNumber : Type 0
InOneNumber = (s : Station) (m n : ℕ) → IdleIn s m → IdleIn s n → m ≡ n
